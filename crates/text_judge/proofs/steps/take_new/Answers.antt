use Rattle.std.proofs.Common.{◌≡◌, List, Some, All, refl, subst, sym, ap, ◌∙◌}
use Rattle.strips_task.specs.Spelled.{step_spelled}
use Rattle.formulas.specs.declared.atoms.Atom.{Atom}
use Rattle.strips_task.specs.declared.steps.StepText.{StepText}
use Rattle.strips_task.specs.declared.tasks.TaskParts.{TaskParts}
use Rattle.strips_judge.specs.StepNumbers.{IsNumbered}
use Rattle.step_codes.specs.Codes.{Code, IsCode, code_shown}
use Rattle.step_codes.proofs.CodeLaws.{added_within}
use Rattle.strips_judge.specs.State.{State}
use Rattle.strips_judge.specs.Statics.{KeepsStatics}
use Rattle.strips_judge.specs.Step.{after, hindrance}
use Rattle.strips_judge.proofs.VerdictLaws.{success_as}
use Rattle.strips_judge.proofs.Growth.{grows_twice}
use Rattle.text_judge.specs.declared.steps.Lesson.{Lesson}
use Rattle.text_judge.specs.Known.{Known}
use Rattle.text_judge.specs.Learned.{IsLearned}
use Rattle.text_judge.proofs.TakenLaws.{learned_as, learned_grown, learned_more, with_value}
use Rattle.text_judge.proofs.steps.take_new.Goals as goal

pub take_by_code-requires : goal.take_by_code-requires
take_by_code-requires c =
    let parts = c.index-index.result.now in
    let step = step_spelled c.args.step.key.now in
    let atoms = c.lesson_of.new.state.atoms in
    let is = with_value (λ (lesson : Lesson). (spelled : StepText) → IsNumbered parts spelled c.args.step.numbers.now → IsCode parts atoms spelled c.lesson_of.new.code)
    c.in_ok-found.found c.in-Some.lesson c.in-Some.is c.in_ok-found.ensures.code in
    added_within c.args.task.now.task atoms step (code_shown c.code-2.result)
    (subst (λ (code : Code). IsCode c.args.task.now.task atoms step code) (sym c.code-2.ensures)
    (subst (λ (parts : TaskParts). IsCode parts atoms step c.lesson_of.new.code) c.index-index.ensures
    (is step (subst (λ (parts : TaskParts). IsNumbered parts step c.args.step.numbers.now) (sym c.index-index.ensures) c.requires.numbered))))

pub returns-in_default-clause-learned : goal.returns-in_default-clause-learned
returns-in_default-clause-learned c =
    let last = c.take_numbered.new.state in
    learned_grown c.args.task.now c.args.state.now last c.args.memo.now
    (grows_twice c.args.state.now c.lesson_of.new.state last c.lesson_of.ensures.grows c.take_numbered.ensures.grows) c.requires.learned

pub returns-in_err-found-clause-learned : goal.returns-in_err-found-clause-learned
returns-in_err-found-clause-learned c =
    learned_grown c.args.task.now c.args.state.now c.lesson_of.new.state c.args.memo.now c.lesson_of.ensures.grows c.requires.learned

pub returns-in_err-add-clause-learned : goal.returns-in_err-add-clause-learned
returns-in_err-add-clause-learned c =
    subst (λ (memo : List Known). All (IsLearned c.args.task.now c.lesson_of.new.state.atoms) memo) (sym c.in_err-add.ensures.err)
    (learned_grown c.args.task.now c.args.state.now c.lesson_of.new.state c.args.memo.now c.lesson_of.ensures.grows c.requires.learned)

pub returns-clause-learned : goal.returns-clause-learned
returns-clause-learned c =
    let task = c.args.task.now in
    let key = c.args.step.key.now in
    let parts = c.index-index.result.now in
    let atoms = c.lesson_of.new.state.atoms in
    let step = step_spelled key in
    let coded = with_value (λ (lesson : Lesson). (spelled : StepText) → IsNumbered parts spelled c.args.step.numbers.now → IsCode parts atoms spelled c.lesson_of.new.code)
    c.in_ok-found.found c.in-Some.lesson c.in-Some.is c.in_ok-found.ensures.code in
    let some = with_value (λ (lesson : Lesson). c.args.step.amount ≡ Some lesson.amount) c.in_ok-found.found c.in-Some.lesson c.in-Some.is c.in_ok-found.ensures.amount in
    let is = subst (λ (code : Code). IsCode task.task atoms step code) (sym c.code.ensures)
    (subst (λ (parts : TaskParts). IsCode parts atoms step c.lesson_of.new.code) c.index-index.ensures
    (coded step (subst (λ (parts : TaskParts). IsNumbered parts step c.args.step.numbers.now) (sym c.index-index.ensures) c.requires.numbered))) in
    let one = learned_as task atoms key (step_spelled key) (code_shown c.code.result) c.args.step.amount c.in-Some.lesson.amount c.in-Some.lesson.amount c.requires.spelled refl is c.requires.amount some refl in
    subst (λ (l : List Atom). All (IsLearned task l) c.add.new.self) (sym c.take_by_code.ensures.atoms)
    (learned_more task atoms c.args.memo.now c.add.new.self (record { key = key; code = code_shown c.code.result; amount = c.in-Some.lesson.amount }) c.in_ok-add.field-0
    c.in_ok-add.ensures.added c.in_ok-add.ensures.not
    (learned_grown task c.args.state.now c.lesson_of.new.state c.args.memo.now c.lesson_of.ensures.grows c.requires.learned) one)

pub returns-clause-taken : goal.returns-clause-taken
returns-clause-taken c =
    let parts = c.args.task.now.task in
    let step = step_spelled c.args.step.key.now in
    let atoms = c.lesson_of.new.state.atoms in
    let same = c.lesson_of.ensures.state in
    let coded = with_value (λ (lesson : Lesson). (spelled : StepText) → IsNumbered c.index-index.result.now spelled c.args.step.numbers.now
    → IsCode c.index-index.result.now atoms spelled c.lesson_of.new.code)
    c.in_ok-found.found c.in-Some.lesson c.in-Some.is c.in_ok-found.ensures.code in
    let is = subst (λ (code : Code). IsCode parts atoms step code) (sym c.code-2.ensures)
    (subst (λ (parts : TaskParts). IsCode parts atoms step c.lesson_of.new.code) c.index-index.ensures
    (coded step (subst (λ (parts : TaskParts). IsNumbered parts step c.args.step.numbers.now) (sym c.index-index.ensures) c.requires.numbered))) in
    success_as _ _ c.take_by_code.result
    (λ taken h t stays.
    let found = h t parts step (subst (KeepsStatics parts) (sym same) stays) is in
    (ap (λ (state : State). hindrance parts state step) (sym same) ∙ found.0, found.1 ∙ ap (λ (state : State). after parts state step) same))
    c.take_by_code.ensures.taken
