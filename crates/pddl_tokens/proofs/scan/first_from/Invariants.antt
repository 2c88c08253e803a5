use Rattle.std.proofs.Common.{◌≡◌, ◌-◌, ◌≤◌, length}
use Rattle.pddl_tokens.specs.Lexeme.{pieces_at}
use Rattle.pddl_tokens.proofs.scan.first_from.Given as goal

-- what was skipped holds no piece
abbrev pub invariant-skipping : goal.invariant-skipping
invariant-skipping l = (pieces_at l.text l.at ≡ pieces_at l.fn.text l.fn.at) × (l.at ≤ length l.text)

abbrev pub decreases-skipping : goal.decreases-skipping
decreases-skipping l = length l.text - l.at
