use Rattle.std.proofs.Common.{◌≡◌, ◌-◌, ◌≤◌, length}
use Rattle.pddl_tokens.specs.Lexeme.{pieces_at}
use Rattle.pddl_tokens.proofs.scan.skip_blanks.Given as goal

-- no piece begins among the blanks up to here
abbrev pub invariant-blanks : goal.invariant-blanks
invariant-blanks l = record {
  same : pieces_at l.text l.at ≡ pieces_at l.fn.text l.fn.at;
  within : l.at ≤ length l.text;
}

abbrev pub decreases-blanks : goal.decreases-blanks
decreases-blanks l = length l.text - l.at
