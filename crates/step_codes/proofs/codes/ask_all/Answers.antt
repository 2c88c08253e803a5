use Rattle.std.proofs.Common.{List, [], refl, ◌∙◌, subst, sym, map, take}
use Rattle.std.proofs.lemmas.List.{take_all}
use Rattle.formulas.specs.Grounding.{with_objects}
use Rattle.formulas.specs.Tree.{Tree}
use Rattle.step_codes.specs.Codes.{AsksFor}
use Rattle.step_codes.proofs.CodeLaws.{asks_nothing}
use Rattle.strips_judge.proofs.Growth.{grows_same, grows_twice}
use Rattle.strips_judge.proofs.StepLaws.{mapped_more}
use Rattle.step_codes.proofs.codes.ask_all.Goals as goal

pub returns-in_err-ask_one-clause-grows : goal.returns-in_err-ask_one-clause-grows
returns-in_err-ask_one-clause-grows c = grows_twice c.args.state.now c.loop-condition.state c.ask_one.new.state c.loop-condition.invariant.2 c.ask_one.ensures.grows

pub returns-then-not-branch-clause-grows : goal.returns-then-not-branch-clause-grows
returns-then-not-branch-clause-grows c = grows_twice c.args.state.now c.loop-condition.state c.ask_one.new.state c.loop-condition.invariant.2 c.ask_one.ensures.grows

pub loop-condition-preserved : goal.loop-condition-preserved
loop-condition-preserved c = (
  subst (λ (l : List Tree). AsksFor c.args.arguments.task.now c.ask_one.new.state.atoms l c.ask_one.new.code)
      (sym (mapped_more (with_objects c.args.arguments.objects.now []) c.args.conditions.now c.loop-condition.condition-index c.condition-item.result c.loop-condition-test.true c.condition-item.is))
      (c.in_ok-ask_one.ensures.asks c.if-not-branch.false (map (with_objects c.args.arguments.objects.now []) (take c.loop-condition.condition-index c.args.conditions.now)) c.loop-condition.invariant.0),
  c.ask_one.ensures.state ∙ c.loop-condition.invariant.1,
  grows_twice c.args.state.now c.loop-condition.state c.ask_one.new.state c.loop-condition.invariant.2 c.ask_one.ensures.grows,
)

pub loop-condition-init : goal.loop-condition-init
loop-condition-init c = (
  asks_nothing c.args.arguments.task.now c.args.state.now.atoms c.ask_nothing.new.self c.ask_nothing.ensures.0 c.ask_nothing.ensures.1,
  refl,
  grows_same c.args.state.now c.args.state.now refl refl,
)

pub returns-clause-asks : goal.returns-clause-asks
returns-clause-asks c = λ t.
    subst (λ (l : List Tree). AsksFor c.args.arguments.task.now c.loop-condition.state.atoms (map (with_objects c.args.arguments.objects.now []) l) c.loop-condition.code)
    (take_all c.loop-condition.condition-index c.args.conditions.now c.loop-condition-test.false)
    c.loop-condition.invariant.0
