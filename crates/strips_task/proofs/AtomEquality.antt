-- Two atoms are equal by the test exactly where they are the same.

use Rattle.std.proofs.Common.{◌≡◌, Bool, true, false, refl, rules, ◌&&◌, true≢false, sym}
use Rattle.std.specs.Cmp.{IsEquivalence}
use Rattle.std.specs.Cmp.Rules.{comparing}
use Rattle.formulas.specs.declared.atoms.Atom.{Atom}
use Rattle.formulas.specs.Atom.{atom_eq}
use Rattle.formulas.specs.AtomEquality.{atom_decides}

-- both parts of a conjunction of tests hold
pub both_hold : (a b : Bool) → (a && b) ≡ true → (a ≡ true) × (b ≡ true)
both_hold true b h = (refl, h)
both_hold false b h = absurd (true≢false (sym h))

pub atom_equiv : IsEquivalence atom_eq
atom_equiv = search (comparing, rules)

pub atom_same : (a b : Atom) → atom_eq a b ≡ true → a ≡ b
atom_same a b h = (atom_decides a b).0 h
