use Rattle.std.proofs.Common.{◌≡◌}
use Rattle.pddl_syntax.specs.Levels.{here}
use Rattle.pddl_syntax.specs.Syntax.{keywords_of}
use Rattle.pddl_syntax.specs.Sizes.{size}
use Rattle.pddl_syntax.proofs.syntax.typed.keywords.Given as goal

abbrev pub invariant-words : goal.invariant-words
invariant-words l = record {
  so_far : keywords_of (here l.walk.cursor).top ≡ keywords_of (here l.fn.walk.cursor).top;
  below : (here l.walk.cursor).below ≡ (here l.fn.walk.cursor).below;
}

abbrev pub decreases-words : goal.decreases-words
decreases-words l = size (here l.walk.cursor).top
