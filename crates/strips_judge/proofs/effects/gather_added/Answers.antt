use Rattle.std.proofs.Common.{◌≡◌, Some, refl, ap, sym, ◌∙◌}
use Rattle.formulas.specs.Meaning.{atom_of}
use Rattle.strips_task.specs.AtomNumbers.{number_in}
use Rattle.strips_judge.specs.NumberedState.{state_of}
use Rattle.strips_judge.proofs.Gathering.{gathers_added}
use Rattle.strips_judge.proofs.effects.gather_added.Goals as goal

pub returns-clause-gathered : goal.returns-clause-gathered
returns-clause-gathered c =
    let atom = atom_of c.args.objects.now c.args.room.now.bound.items c.args.pattern.now in
    let numbered : number_in c.number.new.self.atoms atom ≡ Some c.in_ok-short.field-0 =
    ap (λ bound. number_in c.number.new.self.atoms (atom_of c.args.objects.now bound c.args.pattern.now)) (sym c.as_slice-bound.ensures.value) ∙ c.in_ok-number.ensures.number ∙ ap Some (sym c.in_ok-short.ensures) in
    gathers_added (state_of c.args.state.now) c.args.state.now.atoms c.number.new.self.atoms c.in_ok-number.ensures.grows.numbers atom c.in_ok-short.field-0 _ _ numbered refl c.in_ok-push.ensures.items
