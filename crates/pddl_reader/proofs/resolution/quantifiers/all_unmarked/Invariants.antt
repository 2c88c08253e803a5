use Rattle.std.proofs.Common.{◌≡◌, drop}
use Rattle.pddl_syntax.specs.Forms.{word_forms}
use Rattle.pddl_syntax.specs.Optional.{with_front}
use Rattle.pddl_reader.specs.Scopes.{all_unmarked}
use Rattle.pddl_reader.proofs.resolution.quantifiers.all_unmarked.Given as goal

abbrev pub invariant-words : goal.invariant-words
invariant-words l = with_front l.names (all_unmarked (word_forms (drop l.word-index l.words))) ≡ all_unmarked (word_forms l.words)
