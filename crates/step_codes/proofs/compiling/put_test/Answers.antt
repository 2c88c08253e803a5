use Rattle.std.proofs.Common.{◌≡◌, ◌∙◌, ◌+◌, ◌-◌, ℕ, Bool, List, Option, Some, IfSome, refl, sym, ap, subst, length, length-append, arith}
use Rattle.std.proofs.lemmas.List.Edits.{length-insert}
use Rattle.formulas.specs.Meaning.{atom_of}
use Rattle.formulas.specs.Nodes.{tree_of}
use Rattle.formulas.specs.Within.{IsPatternWithin, IsWithin}
use Rattle.strips_task.specs.AtomNumbers.{number_in}
use Rattle.strips_judge.specs.Choices.{holds_bound}
use Rattle.strips_judge.specs.State.{State}
use Rattle.strips_judge.specs.Statics.{KeepsStatics}
use Rattle.step_codes.proofs.CompiledEffects.{more_certain, more_tested, put_before}
use Rattle.step_codes.proofs.compiling.put_test.Goals as goal

pub lasting_truth-requires : goal.lasting_truth-requires
lasting_truth-requires c =
    subst (λ (l : List ℕ). IsWithin (length c.args.arguments.objects.now) (length l) c.args.literal.now) (sym c.as_slice-bound.ensures.value) c.requires.within

pub short_number-requires : goal.short_number-requires
short_number-requires c =
    let params = length c.args.arguments.objects.now in
    subst (λ (l : List ℕ). IsPatternWithin params (length l) c.in-Atom.pattern) (sym c.as_slice-bound.ensures.value)
    (subst (IsWithin params (length c.args.room.now.bound.items)) (sym c.node.ensures ∙ ap tree_of c.in-Atom.is) c.requires.within)

pub returns-in-Some-clause-tested : goal.returns-in-Some-clause-tested
returns-in-Some-clause-tested c = λ t before found start h.
    let parts = c.args.arguments.task.now in
    let objects = c.args.arguments.objects.now in
    let literal = c.args.literal.now in
    let atoms = c.args.state.now.atoms in
    let lasts : Bool → Type 0 = λ truth. (state : State) → KeepsStatics parts state → holds_bound parts state objects c.as_slice-bound.result.now literal ≡ truth in
    let certain : lasts c.in-Some.holds = let P : Option Bool → Type 0 = λ o. IfSome o lasts in subst P c.in-Some.is c.in_ok-holds.ensures in
    more_certain parts objects c.args.room.now.bound.items literal atoms atoms (λ atom number e. e) before c.args.program.now.items found h c.args.program.now.items refl
    (λ state stays. ap (λ l. holds_bound parts state objects l literal) (sym c.as_slice-bound.ensures.value) ∙ certain state stays ∙ t)

pub returns-clause-length : goal.returns-clause-length
returns-clause-length c =
    let longer : length c.insert.new.self.items ≡ length c.args.program.now.items + 1 = ap length c.in_ok-insert.ensures.items ∙ length-insert c.args.program.now.items c.args.start _ c.requires.start in
    omega (arith, longer)

pub returns-clause-tested : goal.returns-clause-tested
returns-clause-tested c = λ t before found start h.
    let parts = c.args.arguments.task.now in
    let objects = c.args.arguments.objects.now in
    let bound = c.args.room.now.bound.items in
    let atoms = c.short_number.new.state.atoms in
    let fact = atom_of objects bound c.in-Atom.pattern in
    let numbered : number_in atoms (atom_of objects c.as_slice-bound.result.now c.in-Atom.pattern) ≡ Some c.in-Some-found.number =
    let P : Option ℕ → Type 0 = λ o. IfSome o (λ n. number_in atoms (atom_of objects c.as_slice-bound.result.now c.in-Atom.pattern) ≡ Some n) in subst P c.in-Some-found.is c.in_ok-found.ensures.number in
    let long : length c.args.program.now.items ≡ length before + length h.more = ap length h.is ∙ length-append before h.more in
    more_tested parts objects bound c.args.literal.now c.args.state.now.atoms atoms c.short_number.ensures.grows.numbers before c.args.program.now.items found h
    c.in-Atom.truth fact c.in-Some-found.number (c.len-2.result - c.args.start) c.insert.new.self.items
    (ap (λ b. number_in atoms (atom_of objects b c.in-Atom.pattern)) (sym c.as_slice-bound.ensures.value) ∙ numbered)
    (λ state. ap (holds_bound parts state objects bound) (sym c.node.ensures ∙ ap tree_of c.in-Atom.is))
    (let e : c.len-2.result - c.args.start ≡ length h.more = omega (arith, long, start, c.len-2.ensures) in e)
    (c.in_ok-insert.ensures.items ∙ put_before before c.args.program.now.items h.more c.args.start _ h.is start)
