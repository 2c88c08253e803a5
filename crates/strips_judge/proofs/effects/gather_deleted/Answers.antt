use Rattle.std.proofs.Common.{◌≡◌, ◌∙◌, ap, sym, false}
use Rattle.formulas.specs.Meaning.{atom_of}
use Rattle.strips_judge.specs.Gathered.{kept}
use Rattle.strips_judge.specs.NumberedState.{state_of}
use Rattle.strips_judge.proofs.Gathering.{gathers_false}
use Rattle.strips_judge.proofs.Growth.{keeps_same}
use Rattle.strips_judge.proofs.VerdictLaws.{without_value}
use Rattle.strips_judge.proofs.effects.gather_deleted.Goals as goal

pub returns-in-None-clause-gathered : goal.returns-in-None-clause-gathered
returns-in-None-clause-gathered c =
    let bound = c.args.room.now.bound.items in
    let atom = atom_of c.args.objects.now bound c.args.pattern.now in
    let fails : state_of c.args.state.now atom ≡ false =
    ap (λ l. state_of c.args.state.now (atom_of c.args.objects.now l c.args.pattern.now)) (sym c.as_slice-bound.ensures.value) ∙ without_value _ c.in-None.is c.in_ok-number.ensures.none in
    gathers_false (state_of c.args.state.now) c.args.state.now.atoms c.number_if_true.new.self.atoms (keeps_same c.args.state.now.atoms c.number_if_true.new.self.atoms (ap (λ s. s.atoms) c.number_if_true.ensures.same))
    atom (kept c.args.changes.now) fails
