use Rattle.std.proofs.Common.{◌≡◌, ◌+◌, ◌++◌, ◌∷◌, [], List, None, length, subst, sym, ap, ◌∙◌, take}
use Rattle.std.proofs.lemmas.List.{take_all}
use Rattle.formulas.specs.declared.atoms.Atom.{Atom}
use Rattle.strips_task.specs.declared.steps.StepText.{StepText}
use Rattle.strips_judge.specs.NumberedState.{state_of}
use Rattle.strips_judge.specs.State.{State}
use Rattle.text_judge.specs.declared.history.Watch.{Watch}
use Rattle.text_judge.specs.History.{state_after}
use Rattle.text_judge.specs.Watches.{AreWatched, IsWatched}
use Rattle.text_judge.proofs.Histories.{ends_after, watched_first}
use Rattle.text_judge.proofs.Pairs.{one_more, zip_length, zip_push}
use Rattle.text_judge.proofs.history.watch_all.Goals as goal

pub loop-atom-preserved : goal.loop-atom-preserved
loop-atom-preserved c =
    let judging = c.args.judge.now in
    let parts = judging.task.task in
    let atoms = c.args.atoms.now in
    let i = c.loop-atom.atom-index in
    let atom = c.atom-item.result in
    let watches = c.loop-atom.watches.items in
    let watch : Watch = record { is_true = c.holds.result; last = None } in
    let ends : state_of judging.state ≡ state_after parts [] (length {A = StepText} []) = ends_after parts (state_of judging.state) [] c.requires.run in
    let one : IsWatched parts [] atom watch = watched_first parts atom c.holds.result (c.holds.ensures ∙ ap (λ (s : State). s atom) ends) in
    let both : AreWatched parts [] (take i atoms ++ atom ∷ []) (watches ++ watch ∷ []) =
    zip_push (IsWatched parts []) (take i atoms) watches atom watch c.loop-atom.invariant one in
    subst (λ (l : List Watch). AreWatched parts [] (take (i + 1) atoms) l) (sym c.in_ok-push.ensures.items)
    (subst (λ (l : List Atom). AreWatched parts [] l (watches ++ watch ∷ [])) (sym (one_more atoms i atom c.loop-atom-test.true c.atom-item.is)) both)

pub returns-clause-one_each : goal.returns-clause-one_each
returns-clause-one_each c =
    let atoms = c.args.atoms.now in
    let i = c.loop-atom.atom-index in
    zip_length (IsWatched c.args.judge.now.task.task []) (take i atoms) c.loop-atom.watches.items c.loop-atom.invariant
    ∙ ap length (take_all i atoms c.loop-atom-test.false)
