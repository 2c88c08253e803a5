use Rattle.std.proofs.Common.{◌≡◌, ◌∙◌, ℕ, List, Option, Some, IfSome, sym, ap, subst, length}
use Rattle.formulas.specs.Meaning.{atom_of}
use Rattle.formulas.specs.Within.{IsPatternWithin}
use Rattle.strips_task.specs.AtomNumbers.{number_in}
use Rattle.step_codes.proofs.CompiledEffects.{more_change}
use Rattle.step_codes.proofs.compiling.compile_change.Goals as goal

pub short_number-requires : goal.short_number-requires
short_number-requires c =
    subst (λ (l : List ℕ). IsPatternWithin (length c.args.arguments.objects.now) (length l) c.args.pattern.now) (sym c.as_slice-bound.ensures.value) c.requires

pub returns-clause-compiled : goal.returns-clause-compiled
returns-clause-compiled c = λ t.
    let pattern = c.args.pattern.now in
    let objects = c.args.arguments.objects.now in
    let atoms = c.short_number.new.state.atoms in
    let numbered : number_in atoms (atom_of objects c.as_slice-bound.result.now pattern) ≡ Some c.in-Some.number =
    let P : Option ℕ → Type 0 = λ o. IfSome o (λ n. number_in atoms (atom_of objects c.as_slice-bound.result.now pattern) ≡ Some n) in subst P c.in-Some.is c.in_ok-found.ensures.number in
    more_change atoms c.args.program.now.items c.push.new.self.items c.args.truth (atom_of objects c.args.room.now.bound.items pattern) c.in-Some.number
    (ap (λ b. number_in atoms (atom_of objects b pattern)) (sym c.as_slice-bound.ensures.value) ∙ numbered) c.in_ok-push.ensures.items
