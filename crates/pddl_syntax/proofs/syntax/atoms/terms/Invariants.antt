use Rattle.std.proofs.Common.{◌≡◌}
use Rattle.pddl_syntax.specs.Forms.{word_forms}
use Rattle.pddl_syntax.specs.Heads.{is_term}
use Rattle.pddl_syntax.specs.Levels.{here}
use Rattle.pddl_syntax.specs.Optional.{with_front}
use Rattle.pddl_syntax.specs.Syntax.{words_of}
use Rattle.pddl_syntax.specs.Sizes.{size}
use Rattle.pddl_syntax.proofs.syntax.atoms.terms.Given as goal

abbrev pub invariant-terms : goal.invariant-terms
invariant-terms l = record {
  so_far : with_front (word_forms l.terms.items) (words_of (is_term l.context) (here l.walk.cursor).top) ≡ words_of (is_term l.context) (here l.fn.walk.cursor).top;
  below : (here l.walk.cursor).below ≡ (here l.fn.walk.cursor).below;
}

abbrev pub decreases-terms : goal.decreases-terms
decreases-terms l = size (here l.walk.cursor).top
