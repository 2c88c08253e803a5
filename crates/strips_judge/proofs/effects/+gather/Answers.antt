use Rattle.std.proofs.Common.{rules, ◌≡◌, ◌<◌, ◌≤◌, ◌+◌, ◌*◌, ℕ, false, cond, List, [], ◌∷◌, ◌++◌, drop, length, take, sym, ap, ◌∙◌, subst, arith, tests}
use Rattle.std.proofs.lemmas.Option.{get_or_from_slice_get}
use Rattle.std.specs.List.{flat_map}
use Rattle.formulas.specs.declared.variables.VariableGroup.{VariableGroup}
use Rattle.formulas.specs.EffectNodes.{effect_of}
use Rattle.formulas.specs.EffectTree.{effect_parts_of}
use Rattle.formulas.specs.Tree.{conjunction, no_parts}
use Rattle.formulas.specs.Variables.{extensions, variable_types}
use Rattle.formulas.specs.Within.{IsEffectWithin}
use Rattle.strips_judge.specs.Gathered.{Found, GathersMore, kept, nothing, effect_found, effects_found, choices_found}
use Rattle.strips_judge.specs.Listing.{candidates_of}
use Rattle.strips_judge.specs.NumberedState.{Grows, Numbered, state_of}
use Rattle.strips_judge.specs.State.{objects_of}
use Rattle.strips_judge.proofs.EffectWeights.{effect_weight, most_effect_weight, weighs_less, joint_heavier}
use Rattle.strips_judge.proofs.Evaluations.{one_less_left}
use Rattle.strips_judge.proofs.Gathering.{ok_as, gathers_as, gathers_nothing, gathers_at, gathers_both, joint_is, universal_is, joint_within, item_within, one_effect_more, no_choice, of_some, one_fits, one_unfit, all_objects, effect_next_within, effect_all_within, pushed_length, popped}
use Rattle.strips_judge.proofs.Growth.{grows_same, grows_twice, keeps_same}
use Rattle.strips_judge.proofs.effects.+gather.Goals as goal
use Rattle.strips_judge.proofs.effects.+gather.Goals.{gather_choices-then-object_fits+in_ok-push+in_ok-gather_choices, gather_choices-else-object_fits}

pub gather-gather_all-requires : goal.gather-gather_all-requires
gather-gather_all-requires t c =
    let is = sym c.node.ensures ∙ ap effect_of c.in-And.is in (
      (let lighter : most_effect_weight (effect_parts_of c.deref.result.now) + 1 < effect_weight c.args.effect.now =
          joint_heavier c.args.effect.now c.in-And.parts.items c.deref.result.now c.deref.ensures.value is in
          search rules),
      joint_within (length c.args.arguments.objects.now) (length c.args.room.now.bound.items) c.args.effect.now c.in-And.parts.items c.deref.result.now c.deref.ensures.value is c.requires,
    )

pub gather-returns-in-And-clause-gathered : goal.gather-returns-in-And-clause-gathered
gather-returns-in-And-clause-gathered t c =
    let task = c.args.arguments.task.now in
    let state = state_of c.args.state.now in
    let objects = c.args.arguments.objects.now in
    let bound = c.args.room.now.bound.items in
    let is = sym c.node.ensures ∙ ap effect_of c.in-And.is in
    ok_as c.gather_all.result
    (gathers_as state c.args.state.now.atoms c.gather_all.new.state.atoms (kept c.args.changes.now) (kept c.gather_all.new.changes) (effects_found task state objects bound c.deref.result.now)
    (effect_found task state objects bound c.args.effect.now)
    (joint_is task state objects bound c.args.effect.now c.in-And.parts.items c.deref.result.now c.deref.ensures.value is))
    c.gather_all.ensures.gathered

pub gather-evaluate-requires : goal.gather-evaluate-requires
gather-evaluate-requires t c =
    (subst (IsEffectWithin (length c.args.arguments.objects.now) (length c.args.room.now.bound.items)) (sym c.node.ensures ∙ ap effect_of c.in-When.is) c.requires).0

pub gather-gather-requires : goal.gather-gather-requires
gather-gather-requires t c =
    let params = length c.args.arguments.objects.now in
    let within = IsEffectWithin params (length c.args.room.now.bound.items) in
    let is = sym c.node.ensures ∙ ap effect_of c.in-When.is in (
      (let lighter : effect_weight c.deref-in-When.result.now < effect_weight c.args.effect.now =
          omega (arith, ap effect_weight is, ap effect_weight c.deref-in-When.ensures) in
          search rules),
      subst (λ (l : List ℕ). IsEffectWithin params (length l) c.deref-in-When.result.now) (sym c.in_ok-evaluate-in-When.ensures.bound)
          (subst within (sym c.deref-in-When.ensures) (subst within is c.requires).1),
    )

pub gather-returns-then-not-branch-clause-gathered : goal.gather-returns-then-not-branch-clause-gathered
gather-returns-then-not-branch-clause-gathered t c =
    let task = c.args.arguments.task.now in
    let state = state_of c.args.state.now in
    let objects = c.args.arguments.objects.now in
    let bound = c.args.room.now.bound.items in
    let fails = sym c.in_ok-evaluate-in-When.ensures.answer ∙ c.if-not-branch.true in
    gathers_as state c.args.state.now.atoms c.evaluate.new.state.atoms (kept c.args.changes.now) (kept c.args.changes.now) nothing (effect_found task state objects bound c.args.effect.now)
    (λ truth. sym (ap (λ e. effect_found task state objects bound e truth) (sym c.node.ensures ∙ ap effect_of c.in-When.is)
    ∙ ap (λ b. cond b (effect_found task state objects bound c.in-When.body.value truth) []) fails))
    (gathers_nothing state c.args.state.now.atoms c.evaluate.new.state.atoms (keeps_same c.args.state.now.atoms c.evaluate.new.state.atoms (ap (λ s. s.atoms) c.evaluate.ensures.same)) (kept c.args.changes.now))

pub gather-returns-else-not-branch-clause-grows : goal.gather-returns-else-not-branch-clause-grows
gather-returns-else-not-branch-clause-grows t c =
    let same = c.evaluate.ensures.same in
    grows_twice c.args.state.now c.evaluate.new.state c.gather.new.state
    (grows_same c.args.state.now c.evaluate.new.state (ap (λ s. s.initial) same) (ap (λ s. s.atoms) same)) c.gather.ensures.grows

pub gather-returns-else-not-branch-clause-bound : goal.gather-returns-else-not-branch-clause-bound
gather-returns-else-not-branch-clause-bound t c =
    ok_as c.gather.result (λ same. ◌∙◌ {A = List ℕ} same c.in_ok-evaluate-in-When.ensures.bound) c.gather.ensures.bound

pub gather-returns-else-not-branch-clause-gathered : goal.gather-returns-else-not-branch-clause-gathered
gather-returns-else-not-branch-clause-gathered t c =
    let task = c.args.arguments.task.now in
    let state = state_of c.args.state.now in
    let objects = c.args.arguments.objects.now in
    let bound = c.args.room.now.bound.items in
    let body = c.deref-in-When.result.now in
    let before = kept c.args.changes.now in
    let after = kept c.gather.new.changes in
    let atoms = c.gather.new.state.atoms in
    let meets = sym c.in_ok-evaluate-in-When.ensures.answer ∙ c.if-not-branch.false in
    ok_as c.gather.result
    (λ gathered.
    gathers_as state c.args.state.now.atoms atoms before after (effect_found task state objects bound body) (effect_found task state objects bound c.args.effect.now)
    (λ truth. ap (λ e. effect_found task state objects bound e truth) c.deref-in-When.ensures
    ∙ sym (ap (λ e. effect_found task state objects bound e truth) (sym c.node.ensures ∙ ap effect_of c.in-When.is)
    ∙ ap (λ b. cond b (effect_found task state objects bound c.in-When.body.value truth) []) meets))
    (subst (λ (now : Numbered). GathersMore (state_of now) now.atoms atoms before after (effect_found task (state_of now) objects bound body)) c.evaluate.ensures.same
    (subst (λ (l : List ℕ). GathersMore (state_of c.evaluate.new.state) c.evaluate.new.state.atoms atoms before after (effect_found task (state_of c.evaluate.new.state) objects l body)) c.in_ok-evaluate-in-When.ensures.bound gathered)))
    c.gather.ensures.gathered

pub gather-gather_choices-requires : goal.gather-gather_choices-requires
gather-gather_choices-requires t c =
    let params = length c.args.arguments.objects.now in
    let bound = length c.args.room.now.bound.items in
    let is = sym c.node.ensures ∙ ap effect_of c.in-ForAll.is in (
      (let lighter : effect_weight c.deref-in-ForAll.result.now + 2 * length (variable_types c.as_slice-in-ForAll.result.now) + 1 < effect_weight c.args.effect.now =
          omega (arith, ap effect_weight is, ap effect_weight c.deref-in-ForAll.ensures, ap (λ l. length (variable_types l)) c.as_slice-in-ForAll.ensures) in
          search rules),
      (
        (let fits : 0 ≤ bound = omega arith in fits),
        subst (λ (groups : List VariableGroup). IsEffectWithin params (bound + length (variable_types groups)) c.deref-in-ForAll.result.now) (sym c.as_slice-in-ForAll.ensures)
            (subst (IsEffectWithin params (bound + length (variable_types c.in-ForAll.groups))) (sym c.deref-in-ForAll.ensures) (subst (IsEffectWithin params bound) is c.requires)),
      ),
    )

pub gather-returns-then-not-have_objects-clause-gathered : goal.gather-returns-then-not-have_objects-clause-gathered
gather-returns-then-not-have_objects-clause-gathered t c =
    let task = c.args.arguments.task.now in
    let state = state_of c.args.state.now in
    let objects = c.args.arguments.objects.now in
    let bound = c.args.room.now.bound.items in
    let atoms = c.args.state.now.atoms in
    let none : c.have_objects.result ≡ false = grind (arith, tests, c.if-not-have_objects.true) in
    let no_choice = ap (λ l. extensions (objects_of task) (variable_types l) bound) (sym c.as_slice.ensures) ∙ c.have_objects.ensures none bound in
    gathers_as state atoms atoms (kept c.args.changes.now) (kept c.args.changes.now) nothing (effect_found task state objects bound c.args.effect.now)
    (λ truth. sym (ap (λ e. effect_found task state objects bound e truth) (sym c.node.ensures ∙ ap effect_of c.in-ForAll.is)
    ∙ ap (flat_map (λ extended. effect_found task state objects extended c.in-ForAll.body.value truth)) no_choice))
    (gathers_nothing state atoms atoms (λ atom number e. e) (kept c.args.changes.now))

pub gather-returns-else-not-have_objects-clause-gathered : goal.gather-returns-else-not-have_objects-clause-gathered
gather-returns-else-not-have_objects-clause-gathered t c =
    let task = c.args.arguments.task.now in
    let state = state_of c.args.state.now in
    let objects = c.args.arguments.objects.now in
    let bound = c.args.room.now.bound.items in
    let is = sym c.node.ensures ∙ ap effect_of c.in-ForAll.is in
    ok_as c.gather_choices.result
    (gathers_as state c.args.state.now.atoms c.gather_choices.new.state.atoms (kept c.args.changes.now) (kept c.gather_choices.new.changes)
    (choices_found task state objects c.deref-in-ForAll.result.now (variable_types c.as_slice-in-ForAll.result.now) bound) (effect_found task state objects bound c.args.effect.now)
    (universal_is task state objects bound c.args.effect.now c.in-ForAll.body.value c.deref-in-ForAll.result.now c.in-ForAll.groups c.as_slice-in-ForAll.result.now is c.deref-in-ForAll.ensures c.as_slice-in-ForAll.ensures))
    c.gather_choices.ensures.gathered

pub gather_all-gather-requires : goal.gather_all-gather-requires
gather_all-gather-requires t c = (
  (let lighter : effect_weight c.effect-item.result ≤ most_effect_weight (effect_parts_of c.args.effects.now) =
      weighs_less c.args.effects.now c.loop-effect.effect-index c.effect-item.result c.loop-effect-test.true c.effect-item.is in
      search rules),
  item_within (length c.args.arguments.objects.now) (length c.args.room.now.bound.items) c.args.effects.now c.loop-effect.effect-index c.effect-item.result (length c.loop-effect.room.bound.items)
      c.loop-effect-test.true c.effect-item.is (ap length c.loop-effect.invariant.bound) c.requires,
)

pub gather_all-returns-in_err-gather-clause-grows : goal.gather_all-returns-in_err-gather-clause-grows
gather_all-returns-in_err-gather-clause-grows t c = grows_twice c.args.state.now c.loop-effect.state c.gather.new.state c.loop-effect.invariant.grows c.gather.ensures.grows

pub gather_all-loop-effect-preserved : goal.gather_all-loop-effect-preserved
gather_all-loop-effect-preserved t c =
    let task = c.args.arguments.task.now in
    let state = state_of c.args.state.now in
    let objects = c.args.arguments.objects.now in
    let bound = c.args.room.now.bound.items in
    let i = c.loop-effect.effect-index in
    let effect = c.effect-item.result in
    let here = gathers_at (λ s l. effect_found task s objects l effect) (state_of c.loop-effect.state) state c.loop-effect.room.bound.items bound c.loop-effect.state.atoms c.gather.new.state.atoms (kept c.loop-effect.changes) (kept c.gather.new.changes)
    c.loop-effect.invariant.state c.loop-effect.invariant.bound c.in_ok-gather.ensures.gathered in
    record {
      state = c.gather.ensures.state ∙ c.loop-effect.invariant.state;
      grows = grows_twice c.args.state.now c.loop-effect.state c.gather.new.state c.loop-effect.invariant.grows c.gather.ensures.grows;
      bound = ◌∙◌ {A = List ℕ} c.in_ok-gather.ensures.bound c.loop-effect.invariant.bound;
      gathered = gathers_as state c.args.state.now.atoms c.gather.new.state.atoms (kept c.args.changes.now) (kept c.gather.new.changes) _ _
          (one_effect_more task state objects bound c.args.effects.now i effect c.loop-effect-test.true c.effect-item.is)
          (gathers_both state c.args.state.now.atoms c.loop-effect.state.atoms c.gather.new.state.atoms (kept c.args.changes.now) (kept c.loop-effect.changes) (kept c.gather.new.changes) _ _ c.loop-effect.invariant.gathered here);
    }

pub gather_choices-gather-requires : goal.gather_choices-gather-requires
gather_choices-gather-requires t c =
    let variables = variable_types c.args.quantified.groups.now in
    let body = c.args.quantified.body.now in (
      (let lighter : effect_weight body < effect_weight body + 2 * length (drop c.args.first variables) + 1 = omega arith in search rules),
      effect_all_within c.args.arguments.task.now (state_of c.args.state.now) c.args.arguments.objects.now body (length c.args.arguments.objects.now) (length c.args.room.now.bound.items) variables c.args.first c.in_default.ensures.none c.requires.within,
    )

pub gather_choices-returns-in_default-clause-gathered : goal.gather_choices-returns-in_default-clause-gathered
gather_choices-returns-in_default-clause-gathered t c =
    let task = c.args.arguments.task.now in
    let state = state_of c.args.state.now in
    let objects = c.args.arguments.objects.now in
    let body = c.args.quantified.body.now in
    let bound = c.args.room.now.bound.items in
    let variables = variable_types c.args.quantified.groups.now in
    ok_as c.gather.result
    (gathers_as state c.args.state.now.atoms c.gather.new.state.atoms (kept c.args.changes.now) (kept c.gather.new.changes) (effect_found task state objects bound body)
    (choices_found task state objects body (drop c.args.first variables) bound)
    (no_choice task state objects body variables c.args.first bound c.in_default.ensures.none))
    c.gather.ensures.gathered

pub gather_choices-object_fits-requires : goal.gather_choices-object_fits-requires
gather_choices-object_fits-requires t c =
    let candidates = candidates_of c.candidates-candidates.result in
    let object = c.get-object.result in
    let lt : c.loop-index.index < length candidates = omega (arith, c.loop-index-test.true, c.len-index-end.ensures) in
    subst (λ n. n < length c.args.arguments.task.now.objects) (get_or_from_slice_get candidates c.loop-index.index object object c.get-object.ensures)
    (c.candidates-candidates.ensures.known c.loop-index.index object lt)

pub gather_choices-gather_choices-requires : goal.gather_choices-gather_choices-requires
gather_choices-gather_choices-requires t c =
    let task = c.args.arguments.task.now in
    let state = state_of c.args.state.now in
    let objects = c.args.arguments.objects.now in
    let variables = variable_types c.args.quantified.groups.now in
    let body = c.args.quantified.body.now in
    let bound = c.args.room.now.bound.items in
    let more : length c.push.new.self.items ≡ length bound + 1 = pushed_length bound c.loop-index.room.bound.items c.push.new.self.items c.get-object.result c.loop-index.invariant.bound c.in_ok-push.ensures.items in (
      (let lighter : effect_weight body + 2 * length (drop (c.args.first + 1) variables) + 1 < effect_weight body + 2 * length (drop c.args.first variables) + 1 =
          omega (arith, one_less_left (length objects) (length bound) variables c.args.first (conjunction no_parts) c.in-Some.types.now c.in-Some.ensures.some) in
          search rules),
      (
        (let fits : c.args.first + 1 ≤ length c.push.new.self.items = omega (arith, more, c.requires.bound) in fits),
        effect_next_within task state objects body variables c.args.first c.in-Some.types.now bound (length objects) c.in-Some.ensures.some (length c.push.new.self.items) (length bound) more c.requires.within,
      ),
    )

pub gather_choices-returns-in_err-gather_choices-clause-grows : goal.gather_choices-returns-in_err-gather_choices-clause-grows
gather_choices-returns-in_err-gather_choices-clause-grows t c = grows_twice c.args.state.now c.loop-index.state c.gather_choices.new.state c.loop-index.invariant.grows c.gather_choices.ensures.grows

pub gather_choices-loop-index-preserved : goal.gather_choices-loop-index-preserved
gather_choices-loop-index-preserved t c =
    let task = c.args.arguments.task.now in
    let state = state_of c.args.state.now in
    let objects = c.args.arguments.objects.now in
    let variables = variable_types c.args.quantified.groups.now in
    let body = c.args.quantified.body.now in
    let bound = c.args.room.now.bound.items in
    let types = c.in-Some.types.now in
    let i = c.loop-index.index in
    let object = c.get-object.result in
    let candidates = candidates_of c.candidates-candidates.result in
    let lt : i < length candidates = omega (arith, c.loop-index-test.true, c.len-index-end.ensures) in
    let after : ℕ → Found = λ k. of_some task state objects body variables c.args.first types bound (take k candidates) in
    elim c.if-object_fits.branch [
      | gather_choices-then-object_fits+in_ok-push+in_ok-gather_choices w ↦ record {
        state = ap state_of w.state-is ∙ w.gather_choices.ensures.state ∙ c.loop-index.invariant.state;
        grows = subst (Grows c.args.state.now) (sym w.state-is) (grows_twice c.args.state.now c.loop-index.state w.gather_choices.new.state c.loop-index.invariant.grows w.gather_choices.ensures.grows);
        bound = ◌∙◌ {A = List ℕ} (ap (λ room. room.bound.items) w.room-is) (let count : w.gather_choices.new.room.bound.len ≡ length w.gather_choices.new.room.bound.items = search (rules, w.gather_choices.new.room.bound.ok) in
            popped bound w.gather_choices.new.room.bound.items w.pop.new.self.items object w.gather_choices.new.room.bound.len count
            (◌∙◌ {A = List ℕ} w.in_ok-gather_choices.ensures.bound (◌∙◌ {A = List ℕ} w.in_ok-push.ensures.items (ap (λ l. l ++ object ∷ []) c.loop-index.invariant.bound))) w.pop.ensures.rest);
        gathered = subst (λ s. GathersMore state c.args.state.now.atoms s.atoms (kept c.args.changes.now) (kept c.if-object_fits.changes) (after (i + 1))) (sym w.state-is)
            (subst (λ k. GathersMore state c.args.state.now.atoms w.gather_choices.new.state.atoms (kept c.args.changes.now) (kept k) (after (i + 1))) (sym w.changes-is)
            (gathers_as state c.args.state.now.atoms w.gather_choices.new.state.atoms (kept c.args.changes.now) (kept w.gather_choices.new.changes) _ (after (i + 1))
            (one_fits task state objects body variables c.args.first types bound candidates i object lt c.get-object.ensures (sym c.object_fits.ensures ∙ w.if-object_fits.true))
            (gathers_both state c.args.state.now.atoms c.loop-index.state.atoms w.gather_choices.new.state.atoms (kept c.args.changes.now) (kept c.loop-index.changes) (kept w.gather_choices.new.changes)
            (after i) _ c.loop-index.invariant.gathered
            (gathers_at (λ s l. choices_found task s objects body (drop (c.args.first + 1) variables) l) (state_of c.loop-index.state) state w.push.new.self.items (bound ++ object ∷ [])
            c.loop-index.state.atoms w.gather_choices.new.state.atoms (kept c.loop-index.changes) (kept w.gather_choices.new.changes) c.loop-index.invariant.state
            (◌∙◌ {A = List ℕ} w.in_ok-push.ensures.items (ap (λ l. l ++ object ∷ []) c.loop-index.invariant.bound)) w.in_ok-gather_choices.ensures.gathered))));
      }
      | gather_choices-else-object_fits w ↦ record {
        state = ap state_of w.state-is ∙ c.loop-index.invariant.state;
        grows = subst (Grows c.args.state.now) (sym w.state-is) c.loop-index.invariant.grows;
        bound = ◌∙◌ {A = List ℕ} (ap (λ room. room.bound.items) w.room-is) c.loop-index.invariant.bound;
        gathered = subst (λ s. GathersMore state c.args.state.now.atoms s.atoms (kept c.args.changes.now) (kept c.if-object_fits.changes) (after (i + 1))) (sym w.state-is)
            (subst (λ k. GathersMore state c.args.state.now.atoms c.loop-index.state.atoms (kept c.args.changes.now) (kept k) (after (i + 1))) (sym w.changes-is)
            (gathers_as state c.args.state.now.atoms c.loop-index.state.atoms (kept c.args.changes.now) (kept c.loop-index.changes) (after i) (after (i + 1))
            (one_unfit task state objects body variables c.args.first types bound candidates i object lt c.get-object.ensures (sym c.object_fits.ensures ∙ w.if-object_fits.false)) c.loop-index.invariant.gathered));
      }
    ]

pub gather_choices-returns-clause-gathered : goal.gather_choices-returns-clause-gathered
gather_choices-returns-clause-gathered t c =
    let candidates = candidates_of c.candidates-candidates.result in
    let past : length candidates ≤ c.loop-index.index = omega (arith, c.loop-index-test.false, c.len-index-end.ensures) in
    gathers_as (state_of c.args.state.now) c.args.state.now.atoms c.loop-index.state.atoms (kept c.args.changes.now) (kept c.loop-index.changes) _ _
    (all_objects c.args.arguments.task.now (state_of c.args.state.now) c.args.arguments.objects.now c.args.quantified.body.now (variable_types c.args.quantified.groups.now) c.args.first c.in-Some.types.now
    c.args.room.now.bound.items candidates c.in-Some.ensures.some c.candidates-candidates.ensures.all c.loop-index.index past) c.loop-index.invariant.gathered
