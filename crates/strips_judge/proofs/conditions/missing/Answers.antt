use Rattle.std.proofs.Common.{◌≡◌, [], ◌∷◌, ◌++◌, List, refl, sym, ap, subst, ◌∙◌, map, take}
use Rattle.formulas.specs.Grounding.{with_objects}
use Rattle.formulas.specs.Tree.{Tree}
use Rattle.strips_judge.specs.NumberedState.{Numbered, state_of}
use Rattle.strips_judge.specs.Step.{missing}
use Rattle.strips_judge.proofs.StepLaws.{mapped_more, missing-none}
use Rattle.strips_judge.proofs.conditions.missing.Goals as goal

pub loop-condition-init : goal.loop-condition-init
loop-condition-init c = record { found = c.with_hasher-found.ensures.empty ∙ sym (missing-none c.args.task.now (state_of c.args.state.now)); same = refl }

pub loop-condition-preserved : goal.loop-condition-preserved
loop-condition-preserved c =
    let task = c.args.task.now in
    let put_in = with_objects c.args.objects.now [] in
    let condition : Tree = put_in c.condition-item.result in
    let noted = subst (λ (state : Numbered). (before : List Tree) → c.loop-condition.found.keys ≡ missing task (state_of state) before
    → c.note_unmet.new.found.keys ≡ missing task (state_of state) (before ++ condition ∷ [])) c.loop-condition.invariant.same c.in_ok-note_unmet.ensures.found in
    record {
      found = noted (map put_in (take c.loop-condition.condition-index c.args.conditions.now)) c.loop-condition.invariant.found
          ∙ ap (missing task (state_of c.args.state.now)) (sym (mapped_more put_in c.args.conditions.now c.loop-condition.condition-index c.condition-item.result c.loop-condition-test.true c.condition-item.is));
      same = c.note_unmet.ensures.same ∙ c.loop-condition.invariant.same;
    }
