use Rattle.std.proofs.Common.{◌≡◌, ◌+◌, ◌<◌, ◌++◌, ◌∷◌, [], false, List, None, drop, get_or, length, subst, sym, ap, ◌∙◌, take, arith}
use Rattle.std.proofs.lemmas.List.{drop-set-lt, take_more_set}
use Rattle.formulas.specs.declared.atoms.Atom.{Atom}
use Rattle.strips_judge.specs.NumberedState.{state_of}
use Rattle.strips_judge.specs.State.{State}
use Rattle.text_judge.specs.declared.history.Watch.{Watch}
use Rattle.text_judge.specs.History.{state_after}
use Rattle.text_judge.specs.Passes.{with_next}
use Rattle.text_judge.specs.Watches.{AreWatched, IsWatched}
use Rattle.text_judge.proofs.Histories.{ends_after}
use Rattle.text_judge.proofs.Pairs.{from_item, from_index, one_more, zip_from, zip_push}
use Rattle.text_judge.proofs.history.note.Goals as goal

pub loop-index-preserved : goal.loop-index-preserved
loop-index-preserved c =
    let judging = c.args.judge.now in
    let parts = judging.task.task in
    let atoms = c.args.atoms.now in
    let index = c.loop-index.index in
    let watches : List Watch = c.loop-index.watches in
    let atom = c.index-atoms-index.result in
    let no_watch : Watch = record { is_true = false; last = None } in
    let watch : Watch = get_or watches index no_watch in
    let noted : Watch = c.noted.result in
    let within : index < length watches = omega (arith, c.loop-index.auto.watches, c.requires, c.loop-index-test.true) in
    let atoms_from = from_item atoms index atom c.loop-index-test.true c.index-atoms-index.is in
    let watches_from = from_index watches index no_watch within in
    record {
      done = λ steps next taken old.
          let now = with_next steps next in
          let here = zip_from (IsWatched parts steps) atoms watches index atom watch atoms_from watches_from (c.loop-index.invariant.left steps old) in
          let ends : state_of judging.state ≡ state_after parts now (length now) = ends_after parts (state_of judging.state) now taken.run in
          let one : IsWatched parts now atom noted =
          c.noted.ensures parts steps next atom here.0 (c.holds.ensures ∙ ap (λ (s : State). s atom) ends) (c.steps-count.ensures.steps now taken) in
          let both : AreWatched parts now (take index atoms ++ atom ∷ []) (take index watches ++ noted ∷ []) =
          zip_push (IsWatched parts now) (take index atoms) (take index watches) atom noted (c.loop-index.invariant.done steps next taken old) one in
          subst (λ (l : List Watch). AreWatched parts now (take (index + 1) atoms) l) (sym (take_more_set watches index noted within))
          (subst (λ (l : List Atom). AreWatched parts now l (take index watches ++ noted ∷ []))
          (sym (one_more atoms index atom c.loop-index-test.true c.index-atoms-index.is)) both);
      left = λ steps old.
          let here = zip_from (IsWatched parts steps) atoms watches index atom watch atoms_from watches_from (c.loop-index.invariant.left steps old) in
          subst (λ (l : List Watch). AreWatched parts steps (drop (index + 1) atoms) l) (sym (drop-set-lt (index + 1) watches index noted (omega arith))) here.1;
    }
