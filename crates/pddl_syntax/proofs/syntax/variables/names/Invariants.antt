use Rattle.std.proofs.Common.{◌≡◌}
use Rattle.pddl_words.specs.Words.{is_name}
use Rattle.pddl_syntax.specs.Forms.{name_forms}
use Rattle.pddl_syntax.specs.Levels.{here}
use Rattle.pddl_syntax.specs.Optional.{with_front}
use Rattle.pddl_syntax.specs.Syntax.{words_of}
use Rattle.pddl_syntax.specs.Sizes.{size}
use Rattle.pddl_syntax.proofs.syntax.variables.names.Given as goal

abbrev pub invariant-names : goal.invariant-names
invariant-names l = record {
  so_far : with_front (name_forms l.names.items) (words_of is_name (here l.walk.cursor).top) ≡ words_of is_name (here l.fn.walk.cursor).top;
  below : (here l.walk.cursor).below ≡ (here l.fn.walk.cursor).below;
}

abbrev pub decreases-names : goal.decreases-names
decreases-names l = size (here l.walk.cursor).top
