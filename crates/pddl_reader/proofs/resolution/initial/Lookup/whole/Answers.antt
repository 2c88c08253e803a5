use Rattle.std.proofs.Common.{subst}
use Rattle.pddl_syntax.specs.Reading.{Gives}
use Rattle.pddl_reader.specs.Lookups.{looked_up}
use Rattle.pddl_reader.proofs.resolution.initial.Lookup.whole.Goals as goal

pub returns : goal.returns
returns c = λ domain size taken.
    subst (λ lookup. Gives (λ found. found) c.finish.result (looked_up lookup)) (c.in_ok-take_all.ensures.whole domain size taken) c.finish.ensures
