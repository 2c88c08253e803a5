use Rattle.std.proofs.Common.{◌≡◌, ◌++◌, ◌∷◌, [], Bool, List, Option, Some, IfSome, ℕ, subst, sym, ap, ◌∙◌}
use Rattle.formulas.specs.Grounding.{with_objects}
use Rattle.formulas.specs.Nodes.{tree_of}
use Rattle.formulas.specs.Tree.{Tree}
use Rattle.strips_task.specs.declared.tasks.TaskParts.{TaskParts}
use Rattle.strips_judge.specs.Choices.{holds_bound}
use Rattle.step_codes.specs.Codes.{Code, AsksFor}
use Rattle.strips_judge.specs.Grounding.{ground}
use Rattle.strips_judge.specs.State.{State}
use Rattle.strips_judge.specs.Statics.{KeepsStatics}
use Rattle.strips_task.specs.AtomNumbers.{number_in}
use Rattle.step_codes.proofs.CodeLaws.{asks_literal, asks_lasting}
use Rattle.step_codes.proofs.codes.ask_one.Goals as goal

-- a formula is as true as this in every state of a task
abbrev Lasts : TaskParts → List ℕ → Tree → Bool → Type 0
Lasts parts objects tree truth = (state : State) → KeepsStatics parts state → holds_bound parts state objects [] tree ≡ truth

pub returns-clause-asks : goal.returns-clause-asks
returns-clause-asks c = λ t before h.
    let parts = c.args.arguments.task.now in
    let atoms = c.short_number.new.state.atoms in
    let objects = c.args.arguments.objects.now in
    let condition = c.args.condition.now in
    let says : number_in atoms (ground objects c.in-Atom.pattern) ≡ Some c.in-Some-2.number =
    let P : Option ℕ → Type 0 = λ o. IfSome o (λ n. number_in atoms (ground objects c.in-Atom.pattern) ≡ Some n) in subst P c.in-Some-2.is c.in_ok-number.ensures.number in
    subst (λ (code : Code). AsksFor parts atoms (before ++ with_objects objects [] condition ∷ []) code) (sym c.in_ok-ask.ensures)
    (asks_literal parts c.args.state.now.atoms atoms c.short_number.ensures.grows.numbers before c.args.code.now objects condition c.in-Atom.positive c.in-Atom.pattern c.in-Some-2.number
    (sym c.node.ensures ∙ ap tree_of c.in-Atom.is) says h)

pub returns-in-Some-clause-asks : goal.returns-in-Some-clause-asks
returns-in-Some-clause-asks c = λ t before h.
    let parts = c.args.arguments.task.now in
    let lasts : Lasts parts c.args.arguments.objects.now c.args.condition.now c.in-Some.holds =
    let P : Option Bool → Type 0 = λ o. IfSome o (Lasts parts c.args.arguments.objects.now c.args.condition.now) in subst P c.in-Some.is c.in_ok-holds.ensures in
    asks_lasting c.args.arguments.task.now c.args.state.now.atoms before c.args.code.now c.args.arguments.objects.now c.args.condition.now
    (λ state stays. lasts state stays ∙ t) h
