use Rattle.std.proofs.Common.{◌∙◌, sym, ap}
use Rattle.std.specs.List.{list_all}
use Rattle.formulas.specs.Nodes.{tree_of}
use Rattle.formulas.proofs.Parts.{all_parts}
use Rattle.strips_judge.specs.Choices.{holds_bound}
use Rattle.strips_judge.specs.State.{objects_of}
use Rattle.strips_judge.proofs.Evaluations.{conjunction_within}
use Rattle.step_codes.proofs.compiling.conjuncts.Goals as goal

pub returns-in-And-clause-holds : goal.returns-in-And-clause-holds
returns-in-And-clause-holds c = λ parts state objects bound.
    ap (holds_bound parts state objects bound) (sym c.node.ensures ∙ ap tree_of c.in-And.is)
    ∙ all_parts (objects_of parts) state objects bound c.in-And.parts.items
    ∙ ap (list_all (holds_bound parts state objects bound)) (sym c.deref.ensures.value)

pub returns-in-And-clause-within : goal.returns-in-And-clause-within
returns-in-And-clause-within c = λ params bound h.
    conjunction_within params bound c.args.formula.now c.in-And.parts.items c.deref.result.now (sym c.node.ensures ∙ ap tree_of c.in-And.is) c.deref.ensures.value h
