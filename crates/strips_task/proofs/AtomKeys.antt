-- Keys of atoms.

use Rattle.std.proofs.Common.{◌≡◌, ◌≤◌, ◌+◌, ◌*◌, ◌/◌, ◌%◌, length, ap, arith}
use Rattle.strips_task.specs.declared.atom_keys.AtomKey.{AtomKey}
use Rattle.strips_task.specs.AtomKeys.{IsKeyOf, atom_of}

-- the key of an atom says that it has at most four objects
pub few_said : (key : AtomKey) → IsKeyOf (atom_of key) key → key.head / 65536 ≤ 4
few_said key is =
    let head : key.head ≡ key.head % 65536 + 65536 * length (atom_of key).args = ap (λ (k : AtomKey). k.head) is.key_is in
    let few : length (atom_of key).args ≤ 4 = is.few in
    omega (arith, head, few)
