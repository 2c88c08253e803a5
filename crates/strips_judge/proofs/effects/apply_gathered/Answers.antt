use Rattle.std.proofs.Common.{true, false, ap, sym, ◌∙◌, subst, map, filter}
use Rattle.strips_judge.specs.NumberedState.{AreNumbers, state_of}
use Rattle.strips_judge.specs.Gathered.{AreGathered, kept}
use Rattle.strips_judge.specs.Grounding.{ground}
use Rattle.strips_judge.specs.State.{with_all, without}
use Rattle.strips_judge.specs.Step.{changed_by}
use Rattle.strips_judge.proofs.ActionEffects.{after_gathered}
use Rattle.strips_judge.proofs.AtomNumbers.{numbers_kept, numbers_within}
use Rattle.strips_judge.proofs.Gathering.{gathered_all}
use Rattle.strips_judge.proofs.Growth.{grows_same, grows_twice}
use Rattle.strips_judge.proofs.effects.apply_gathered.Goals as goal

pub returns-in_err-remove_all-clause-grows : goal.returns-in_err-remove_all-clause-grows
returns-in_err-remove_all-clause-grows c = grows_twice c.args.state.now c.gather_all.new.state c.remove_all.new.state c.gather_all.ensures.grows c.remove_all.ensures.grows

pub returns-in_err-insert_all-clause-grows : goal.returns-in_err-insert_all-clause-grows
returns-in_err-insert_all-clause-grows c =
    grows_twice c.args.state.now c.clear_all.new.state c.insert_all.new.state
    (grows_twice c.args.state.now c.remove_all.new.state c.clear_all.new.state
    (grows_twice c.args.state.now c.gather_all.new.state c.remove_all.new.state c.gather_all.ensures.grows c.remove_all.ensures.grows)
    (grows_same c.remove_all.new.state c.clear_all.new.state c.clear_all.ensures.initial c.clear_all.ensures.atoms))
    c.insert_all.ensures.grows

pub set_all-requires : goal.set_all-requires
set_all-requires c =
    let task = c.args.arguments.task.now in
    let objects = c.args.arguments.objects.now in
    let state = state_of c.args.state.now in
    let effects = c.args.action.now.effects in
    let gathered : AreGathered c.gather_all.new.state.atoms state (λ truth. changed_by task objects state truth effects) (kept c.gather_all.new.changes) =
    gathered_all task state objects c.clear.new.self.items effects c.as_slice.result.now c.args.state.now.atoms c.gather_all.new.state.atoms _ (kept c.gather_all.new.changes)
    c.clear.ensures.items c.as_slice.ensures c.clear-2.ensures.deleted c.clear-2.ensures.added c.in_ok-gather_all.ensures.gathered in
    let grown = grows_twice c.gather_all.new.state c.clear_all.new.state c.insert_all.new.state
    (grows_twice c.gather_all.new.state c.remove_all.new.state c.clear_all.new.state c.remove_all.ensures.grows
    (grows_same c.remove_all.new.state c.clear_all.new.state c.clear_all.ensures.initial c.clear_all.ensures.atoms)) c.insert_all.ensures.grows in
    let added = changed_by task objects state true effects in
    numbers_within c.insert_all.new.state.atoms added c.as_slice-5.result.now
    (subst (AreNumbers c.insert_all.new.state.atoms added) (sym c.as_slice-5.ensures.value)
    (numbers_kept c.gather_all.new.state.atoms c.insert_all.new.state.atoms grown.numbers added c.gather_all.new.changes.added.items gathered.added))

pub returns-clause-grows : goal.returns-clause-grows
returns-clause-grows c =
    grows_twice c.args.state.now c.insert_all.new.state c.set_all.new.state
    (grows_twice c.args.state.now c.clear_all.new.state c.insert_all.new.state
    (grows_twice c.args.state.now c.remove_all.new.state c.clear_all.new.state
    (grows_twice c.args.state.now c.gather_all.new.state c.remove_all.new.state c.gather_all.ensures.grows c.remove_all.ensures.grows)
    (grows_same c.remove_all.new.state c.clear_all.new.state c.clear_all.ensures.initial c.clear_all.ensures.atoms))
    c.insert_all.ensures.grows)
    (grows_same c.insert_all.new.state c.set_all.new.state c.set_all.ensures.initial c.set_all.ensures.atoms)

pub returns-clause-state : goal.returns-clause-state
returns-clause-state c =
    let task = c.args.arguments.task.now in
    let objects = c.args.arguments.objects.now in
    let state = state_of c.args.state.now in
    let effects = c.args.action.now.effects in
    let gathered : AreGathered c.gather_all.new.state.atoms state (λ truth. changed_by task objects state truth effects) (kept c.gather_all.new.changes) =
    gathered_all task state objects c.clear.new.self.items effects c.as_slice.result.now c.args.state.now.atoms c.gather_all.new.state.atoms _ (kept c.gather_all.new.changes)
    c.clear.ensures.items c.as_slice.ensures c.clear-2.ensures.deleted c.clear-2.ensures.added c.in_ok-gather_all.ensures.gathered in
    let deleted = filter state (changed_by task objects state false effects) in
    let added = changed_by task objects state true effects in
    let clears : AreNumbers c.remove_all.new.state.atoms deleted c.as_slice-3.result.now =
    subst (AreNumbers c.remove_all.new.state.atoms deleted) (sym c.as_slice-3.ensures.value)
    (numbers_kept c.gather_all.new.state.atoms c.remove_all.new.state.atoms c.remove_all.ensures.grows.numbers deleted c.gather_all.new.changes.deleted.items gathered.deleted) in
    let grown = grows_twice c.gather_all.new.state c.clear_all.new.state c.insert_all.new.state
    (grows_twice c.gather_all.new.state c.remove_all.new.state c.clear_all.new.state c.remove_all.ensures.grows
    (grows_same c.remove_all.new.state c.clear_all.new.state c.clear_all.ensures.initial c.clear_all.ensures.atoms)) c.insert_all.ensures.grows in
    let sets : AreNumbers c.insert_all.new.state.atoms added c.as_slice-5.result.now =
    subst (AreNumbers c.insert_all.new.state.atoms added) (sym c.as_slice-5.ensures.value)
    (numbers_kept c.gather_all.new.state.atoms c.insert_all.new.state.atoms grown.numbers added c.gather_all.new.changes.added.items gathered.added) in
    after_gathered task objects state c.args.action.now (state_of c.remove_all.new.state) (state_of c.clear_all.new.state) (state_of c.insert_all.new.state) (state_of c.set_all.new.state)
    (c.in_ok-remove_all.ensures.state ∙ (λ j. without (c.gather_all.ensures.state j) (map (ground objects) (c.as_slice-2.ensures j))))
    (c.clear_all.ensures.state deleted clears)
    (c.in_ok-insert_all.ensures.state ∙ ap (λ l. with_all (state_of c.clear_all.new.state) (map (ground objects) l)) c.as_slice-4.ensures)
    (c.set_all.ensures.state added sets)
