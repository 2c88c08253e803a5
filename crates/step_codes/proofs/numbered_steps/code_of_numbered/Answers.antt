use Rattle.std.proofs.Common.{◌≡◌, List, Some, true, false, subst, sym}
use Rattle.formulas.specs.declared.atoms.Atom.{Atom}
use Rattle.formulas.specs.Tree.{Tree}
use Rattle.step_codes.specs.Codes.{AsksFor, numbers_by}
use Rattle.strips_judge.specs.NumberedState.{AreNumbers}
use Rattle.strips_judge.specs.Step.{action_named, adds_by, conditions_by, deletes_by, objects_named}
use Rattle.step_codes.proofs.numbered_steps.code_of_numbered.Goals as goal

pub returns-clause-code : goal.returns-clause-code
returns-clause-code c = λ t step is.
    let task = c.args.task.now in
    let atoms = c.code_of_action.new.state.atoms in
    let code = c.code_of_action.new.code in
    let objects : c.in-Some.objects.now ≡ objects_named task step.args = c.in-Some.ensures.objects step is in
    let action : Some c.in-Some.action.now ≡ action_named task step.action = sym (c.in-Some.ensures.named step is) in
    record {
      faultless = c.in-Some.ensures.faultless step is;
      asks = subst (λ (conditions : List Tree). AsksFor task atoms conditions code) (λ j. conditions_by (objects j) (action j)) (c.in_ok-found.ensures.asks t);
      deleted = λ state bits stays are.
          subst (λ (l : List Atom). AreNumbers atoms l (numbers_by bits false code)) (λ j. deletes_by task (objects j) state (action j)) (c.in_ok-found.ensures.deleted t state bits stays are);
      added = λ state bits stays are.
          subst (λ (l : List Atom). AreNumbers atoms l (numbers_by bits true code)) (λ j. adds_by task (objects j) state (action j)) (c.in_ok-found.ensures.added t state bits stays are);
      within = c.in_ok-found.ensures.within t;
    }
