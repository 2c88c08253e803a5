use Rattle.std.proofs.Common.{bit_xor, ap, ◌∙◌}
use Rattle.std.specs.Hash.FoldHasher.{folded_multiply}
use Rattle.strips_task.specs.KnownAtoms.{hash_of}
use Rattle.strips_task.proofs.known_atoms.hash_of.Goals as goal

pub returns : goal.returns
unfolding hash_of
returns c = c.folded_multiply.ensures ∙ ap (λ n. folded_multiply (bit_xor c.args.key.objects c.args.objects_by) (bit_xor n c.args.head_by)) c.from.ensures
