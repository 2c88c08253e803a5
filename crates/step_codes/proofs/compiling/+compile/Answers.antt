use Rattle.std.proofs.Common.{rules, ◌≡◌, ◌<◌, ◌≤◌, ◌+◌, ◌*◌, ℕ, false, List, [], ◌∷◌, ◌++◌, drop, take, length, sym, ap, ◌∙◌, refl, subst, length-append, arith, tests}
use Rattle.std.proofs.lemmas.Option.{get_or_from_slice_get}
use Rattle.formulas.specs.declared.variables.VariableGroup.{VariableGroup}
use Rattle.formulas.specs.EffectNodes.{effect_of}
use Rattle.formulas.specs.EffectTree.{conditional, effect_parts_of}
use Rattle.formulas.specs.Tree.{conjunction, no_parts}
use Rattle.formulas.specs.Variables.{variable_types}
use Rattle.formulas.specs.Within.{IsEffectWithin, IsWithin}
use Rattle.step_codes.specs.Compiling.{FindsMore, FoundIn, where_it_holds}
use Rattle.strips_judge.specs.Gathered.{effect_found, effects_found, choices_found}
use Rattle.strips_judge.specs.Listing.{candidates_of}
use Rattle.strips_judge.specs.NumberedState.{Grows, state_of}
use Rattle.step_codes.proofs.CompiledEffects.{ok_known, more_nothing, more_as, more_both, alone_is, when_is, never_is, no_choice_is}
use Rattle.strips_judge.proofs.EffectWeights.{effect_weight, most_effect_weight, weighs_less, joint_heavier}
use Rattle.strips_judge.proofs.Evaluations.{one_less_left}
use Rattle.strips_judge.proofs.Gathering.{ok_as, joint_is, universal_is, joint_within, item_within, one_effect_more, no_choice, of_some, one_fits, one_unfit, all_objects, effect_next_within, effect_all_within, pushed_length, popped}
use Rattle.strips_judge.proofs.Growth.{grows_same, grows_twice}
use Rattle.strips_judge.proofs.VerdictLaws.{success_as}
use Rattle.step_codes.proofs.compiling.+compile.Goals as goal
use Rattle.step_codes.proofs.compiling.+compile.Goals.{compile_choices-then-object_fits+in_ok-push+in_ok-compiled+else-not-compiled, compile_choices-else-object_fits}

pub compile-compile_all-requires : goal.compile-compile_all-requires
compile-compile_all-requires t c =
    let is = sym c.node.ensures ∙ ap effect_of c.in-And.is in (
      (let lighter : most_effect_weight (effect_parts_of c.deref.result.now) + 1 < effect_weight c.args.effect.now =
          joint_heavier c.args.effect.now c.in-And.parts.items c.deref.result.now c.deref.ensures.value is in
          search rules),
      joint_within (length c.args.arguments.objects.now) (length c.args.room.now.bound.items) c.args.effect.now c.in-And.parts.items c.deref.result.now c.deref.ensures.value is c.requires,
    )

pub compile-compile_change-requires : goal.compile-compile_change-requires
compile-compile_change-requires t c =
    subst (IsEffectWithin (length c.args.arguments.objects.now) (length c.args.room.now.bound.items)) (sym c.node.ensures ∙ ap effect_of c.in-Atom.is) c.requires

pub compile-is_never_true-requires : goal.compile-is_never_true-requires
compile-is_never_true-requires t c =
    (subst (IsEffectWithin (length c.args.arguments.objects.now) (length c.args.room.now.bound.items)) (sym c.node.ensures ∙ ap effect_of c.in-When.is) c.requires).0

pub compile-compile_choices-requires : goal.compile-compile_choices-requires
compile-compile_choices-requires t c =
    let params = length c.args.arguments.objects.now in
    let bound = length c.args.room.now.bound.items in
    let is = sym c.node.ensures ∙ ap effect_of c.in-ForAll.is in (
      (let lighter : effect_weight c.deref-in-ForAll.result.now + 2 * length (variable_types c.as_slice-in-ForAll.result.now) + 1 < effect_weight c.args.effect.now =
          omega (arith, ap effect_weight is, ap effect_weight c.deref-in-ForAll.ensures, ap (λ l. length (variable_types l)) c.as_slice-in-ForAll.ensures) in
          search rules),
      (
        (let fits : 0 ≤ bound = omega arith in fits),
        subst (λ (groups : List VariableGroup). IsEffectWithin params (bound + length (variable_types groups)) c.deref-in-ForAll.result.now) (sym c.as_slice-in-ForAll.ensures)
            (subst (IsEffectWithin params (bound + length (variable_types c.in-ForAll.groups))) (sym c.deref-in-ForAll.ensures) (subst (IsEffectWithin params bound) is c.requires)),
      ),
    )

pub compile-returns-else-branch-clause-bound : goal.compile-returns-else-branch-clause-bound
compile-returns-else-branch-clause-bound t c =
    ok_as c.compile_when.result (λ same. ◌∙◌ {A = List ℕ} same (ap (λ bound. bound.items) c.is_never_true.ensures.bound)) c.compile_when.ensures.bound

pub compile_when-compile-requires : goal.compile_when-compile-requires
compile_when-compile-requires t c = (
  (let lighter : effect_weight c.args.body.now < effect_weight c.args.body.now + 1 = omega arith in search rules),
  c.requires.body,
)

pub compile_when-put_tests-requires-clause-within : goal.compile_when-put_tests-requires-clause-within
compile_when-put_tests-requires-clause-within t c =
    subst (λ (l : List ℕ). IsWithin (length c.args.arguments.objects.now) (length l) c.args.condition.now) (sym c.in_ok-compile.ensures.bound) c.requires.condition

pub compile_when-put_tests-requires-clause-start : goal.compile_when-put_tests-requires-clause-start
compile_when-put_tests-requires-clause-start t c =
    let found = c.in_ok-compile.ensures.compiled c.if-not-branch.false in
    let longer : length c.compile.new.program.items ≡ length c.args.program.now.items + length found.more = ap length found.is ∙ length-append c.args.program.now.items found.more in
    omega (arith, longer, c.len-start.ensures)

pub compile_when-returns-clause-state : goal.compile_when-returns-clause-state
compile_when-returns-clause-state t c = c.put_tests.ensures.state ∙ c.compile.ensures.state

pub compile_when-returns-clause-bound : goal.compile_when-returns-clause-bound
compile_when-returns-clause-bound t c =
    ok_known c.put_tests.result (◌∙◌ {A = List ℕ} (ap (λ bound. bound.items) c.put_tests.ensures.bound) c.in_ok-compile.ensures.bound)

pub compile_choices-object_fits-requires : goal.compile_choices-object_fits-requires
compile_choices-object_fits-requires t c =
    let candidates = candidates_of c.candidates-candidates.result in
    let object = c.get-object.result in
    let lt : c.loop-index.index < length candidates = omega (arith, c.loop-index-test.true, c.len-index-end.ensures) in
    subst (λ n. n < length c.args.arguments.task.now.objects) (get_or_from_slice_get candidates c.loop-index.index object object c.get-object.ensures)
    (c.candidates-candidates.ensures.known c.loop-index.index object lt)

pub compile-returns-in-Atom-clause-compiled : goal.compile-returns-in-Atom-clause-compiled
compile-returns-in-Atom-clause-compiled t c =
    success_as _ _ c.compile_change.result
    (λ compiled h t. more_as _ _ _ _ _
    (alone_is c.args.arguments.task.now c.args.arguments.objects.now c.args.room.now.bound.items c.args.effect.now c.in-Atom.truth c.in-Atom.pattern (sym c.node.ensures ∙ ap effect_of c.in-Atom.is)) (h t))
    c.compile_change.ensures.compiled

pub compile-returns-in-And-clause-compiled : goal.compile-returns-in-And-clause-compiled
compile-returns-in-And-clause-compiled t c =
    let task = c.args.arguments.task.now in
    let objects = c.args.arguments.objects.now in
    let bound = c.args.room.now.bound.items in
    let is = sym c.node.ensures ∙ ap effect_of c.in-And.is in
    success_as _ _ c.compile_all.result
    (λ compiled h t. more_as _ _ _ _ _
    (λ state. joint_is task state objects bound c.args.effect.now c.in-And.parts.items c.deref.result.now c.deref.ensures.value is) (h t))
    c.compile_all.ensures.compiled

pub compile_when-returns-clause-grows : goal.compile_when-returns-clause-grows
compile_when-returns-clause-grows t c = grows_twice c.args.state.now c.compile.new.state c.put_tests.new.state c.compile.ensures.grows c.put_tests.ensures.grows

pub compile_when-returns-clause-compiled : goal.compile_when-returns-clause-compiled
compile_when-returns-clause-compiled t c =
    let task = c.args.arguments.task.now in
    let objects = c.args.arguments.objects.now in
    let bound = c.args.room.now.bound.items in
    success_as _ _ c.put_tests.result
    (λ compiled h t. subst (λ (b : List ℕ). FindsMore task c.put_tests.new.state.atoms c.args.program.now.items c.put_tests.new.program.items
    (where_it_holds task objects b c.args.condition.now (λ before. effect_found task before objects bound c.args.body.now))) c.in_ok-compile.ensures.bound
    (h t c.args.program.now.items (λ before. effect_found task before objects bound c.args.body.now) (sym c.args.program.now.ok.0 ∙ sym c.len-start.ensures)
    (c.in_ok-compile.ensures.compiled c.if-not-branch.false)))
    c.put_tests.ensures.tested

pub compile-compile_when-requires : goal.compile-compile_when-requires
compile-compile_when-requires t c =
    let params = length c.args.arguments.objects.now in
    let is = sym c.node.ensures ∙ ap effect_of c.in-When.is in
    let bound = ap (λ bound. length bound.items) c.is_never_true.ensures.bound in
    let within : IsEffectWithin params (length c.is_never_true.new.room.bound.items) (conditional c.in-When.condition c.in-When.body.value) =
    subst (λ n. IsEffectWithin params n (conditional c.in-When.condition c.in-When.body.value)) (sym bound) (subst (IsEffectWithin params (length c.args.room.now.bound.items)) is c.requires) in (
      (let lighter : effect_weight c.deref-in-When.result.now + 1 < effect_weight c.args.effect.now =
          omega (arith, ap effect_weight is, ap effect_weight c.deref-in-When.ensures) in
          search rules),
      (within.0, subst (IsEffectWithin params (length c.is_never_true.new.room.bound.items)) (sym c.deref-in-When.ensures) within.1),
    )

pub compile-returns-then-branch-clause-compiled : goal.compile-returns-then-branch-clause-compiled
compile-returns-then-branch-clause-compiled t c = λ t.
    more_nothing _ _ _
    (never_is c.args.arguments.task.now c.args.arguments.objects.now c.args.room.now.bound.items c.args.effect.now c.in-When.body.value c.in-When.body.value c.in-When.condition c.args.room.now.bound.items
    (sym c.node.ensures ∙ ap effect_of c.in-When.is) refl (c.in_ok-is_never_true-in-When.ensures.never c.if-branch.true))

pub compile-returns-then-not-have_objects-clause-compiled : goal.compile-returns-then-not-have_objects-clause-compiled
compile-returns-then-not-have_objects-clause-compiled t c = λ t.
    let bound = c.args.room.now.bound.items in
    let none : c.have_objects.result ≡ false = grind (arith, tests, c.if-not-have_objects.true) in
    more_nothing _ _ _
    (λ state stays truth. no_choice_is c.args.arguments.task.now c.args.arguments.objects.now bound c.args.effect.now c.in-ForAll.body.value c.in-ForAll.body.value c.in-ForAll.groups c.as_slice.result.now
    (sym c.node.ensures ∙ ap effect_of c.in-ForAll.is) c.as_slice.ensures (c.have_objects.ensures none bound) state truth)

pub compile-returns-else-branch-clause-compiled : goal.compile-returns-else-branch-clause-compiled
compile-returns-else-branch-clause-compiled t c =
    let task = c.args.arguments.task.now in
    let objects = c.args.arguments.objects.now in
    let bound = c.args.room.now.bound.items in
    let same : c.is_never_true.new.room.bound.items ≡ bound = ap (λ bound. bound.items) c.is_never_true.ensures.bound in
    success_as _ _ c.compile_when.result
    (λ compiled h t. more_as _ _ _ _ _
    (when_is task objects bound c.args.effect.now c.in-When.body.value c.deref-in-When.result.now c.in-When.condition bound (sym c.node.ensures ∙ ap effect_of c.in-When.is) c.deref-in-When.ensures refl)
    (subst (λ (b : List ℕ). FindsMore task c.compile_when.new.state.atoms c.args.program.now.items c.compile_when.new.program.items
    (where_it_holds task objects b c.in-When.condition (λ before. effect_found task before objects b c.deref-in-When.result.now))) same (h t)))
    c.compile_when.ensures.compiled

pub compile-returns-else-not-have_objects-clause-compiled : goal.compile-returns-else-not-have_objects-clause-compiled
compile-returns-else-not-have_objects-clause-compiled t c =
    let task = c.args.arguments.task.now in
    let objects = c.args.arguments.objects.now in
    let bound = c.args.room.now.bound.items in
    success_as _ _ c.compile_choices.result
    (λ compiled h t. more_as _ _ _ _ _
    (λ state. universal_is task state objects bound c.args.effect.now c.in-ForAll.body.value c.deref-in-ForAll.result.now c.in-ForAll.groups c.as_slice-in-ForAll.result.now
    (sym c.node.ensures ∙ ap effect_of c.in-ForAll.is) c.deref-in-ForAll.ensures c.as_slice-in-ForAll.ensures) (h t))
    c.compile_choices.ensures.compiled

pub compile-returns-in_err-is_never_true-in-When-clause-grows : goal.compile-returns-in_err-is_never_true-in-When-clause-grows
compile-returns-in_err-is_never_true-in-When-clause-grows t c = grows_same c.args.state.now c.args.state.now refl refl

pub compile-returns-then-branch-clause-grows : goal.compile-returns-then-branch-clause-grows
compile-returns-then-branch-clause-grows t c = grows_same c.args.state.now c.args.state.now refl refl

pub compile-returns-then-not-have_objects-clause-grows : goal.compile-returns-then-not-have_objects-clause-grows
compile-returns-then-not-have_objects-clause-grows t c = grows_same c.args.state.now c.args.state.now refl refl

pub compile_all-loop-effect-init : goal.compile_all-loop-effect-init
compile_all-loop-effect-init t c =
    record {
      state = refl;
      grows = grows_same c.args.state.now c.args.state.now refl refl;
      bound = refl;
      compiled = more_nothing c.args.state.now.atoms c.args.program.now.items _ (λ state stays truth. refl);
    }

pub compile_choices-loop-index-init : goal.compile_choices-loop-index-init
compile_choices-loop-index-init t c =
    record {
      state = refl;
      grows = grows_same c.args.state.now c.args.state.now refl refl;
      bound = refl;
      compiled = more_nothing c.args.state.now.atoms c.args.program.now.items _ (λ state stays truth. refl);
    }

pub compile_all-compile-requires : goal.compile_all-compile-requires
compile_all-compile-requires t c = (
  (let lighter : effect_weight c.effect-item.result ≤ most_effect_weight (effect_parts_of c.args.effects.now) =
      weighs_less c.args.effects.now c.loop-effect.effect-index c.effect-item.result c.loop-effect-test.true c.effect-item.is in
      search rules),
  item_within (length c.args.arguments.objects.now) (length c.args.room.now.bound.items) c.args.effects.now c.loop-effect.effect-index c.effect-item.result (length c.loop-effect.room.bound.items)
      c.loop-effect-test.true c.effect-item.is (ap length c.loop-effect.invariant.bound) c.requires,
)

pub compile_all-returns-in_err-compile-clause-grows : goal.compile_all-returns-in_err-compile-clause-grows
compile_all-returns-in_err-compile-clause-grows t c = grows_twice c.args.state.now c.loop-effect.state c.compile.new.state c.loop-effect.invariant.grows c.compile.ensures.grows

pub compile_all-returns-then-not-branch-clause-grows : goal.compile_all-returns-then-not-branch-clause-grows
compile_all-returns-then-not-branch-clause-grows t c = grows_twice c.args.state.now c.loop-effect.state c.compile.new.state c.loop-effect.invariant.grows c.compile.ensures.grows

pub compile_all-loop-effect-preserved : goal.compile_all-loop-effect-preserved
compile_all-loop-effect-preserved t c =
    let task = c.args.arguments.task.now in
    let objects = c.args.arguments.objects.now in
    let bound = c.args.room.now.bound.items in
    let i = c.loop-effect.effect-index in
    let effect = c.effect-item.result in
    let before = c.loop-effect.state.atoms in
    let after = c.compile.new.state.atoms in
    let old = c.args.program.now.items in
    let mid = c.loop-effect.program.items in
    let new = c.compile.new.program.items in
    let so_far : FoundIn = λ state. effects_found task state objects bound (take i c.args.effects.now) in
    let more : FoundIn = λ state. effect_found task state objects bound effect in
    record {
      state = c.compile.ensures.state ∙ c.loop-effect.invariant.state;
      grows = grows_twice c.args.state.now c.loop-effect.state c.compile.new.state c.loop-effect.invariant.grows c.compile.ensures.grows;
      bound = ◌∙◌ {A = List ℕ} c.in_ok-compile.ensures.bound c.loop-effect.invariant.bound;
      compiled = more_as after old new _ (λ state. effects_found task state objects bound (take (i + 1) c.args.effects.now))
          (λ state. one_effect_more task state objects bound c.args.effects.now i effect c.loop-effect-test.true c.effect-item.is)
          (more_both before after c.compile.ensures.grows.numbers old mid new so_far more c.loop-effect.invariant.compiled
          (subst (λ (b : List ℕ). FindsMore task after mid new (λ state. effect_found task state objects b effect)) c.loop-effect.invariant.bound
          (c.in_ok-compile.ensures.compiled c.if-not-branch.false)));
    }

pub compile_choices-compile-requires : goal.compile_choices-compile-requires
compile_choices-compile-requires t c =
    let variables = variable_types c.args.quantified.groups.now in
    let body = c.args.quantified.body.now in (
      (let lighter : effect_weight body < effect_weight body + 2 * length (drop c.args.first variables) + 1 = omega arith in search rules),
      effect_all_within c.args.arguments.task.now (state_of c.args.state.now) c.args.arguments.objects.now body (length c.args.arguments.objects.now) (length c.args.room.now.bound.items) variables c.args.first c.in_default.ensures.none c.requires.within,
    )

pub compile_choices-returns-in_default-clause-compiled : goal.compile_choices-returns-in_default-clause-compiled
compile_choices-returns-in_default-clause-compiled t c =
    let task = c.args.arguments.task.now in
    let objects = c.args.arguments.objects.now in
    let body = c.args.quantified.body.now in
    let bound = c.args.room.now.bound.items in
    let variables = variable_types c.args.quantified.groups.now in
    success_as _ _ c.compile.result
    (λ compiled h t. more_as _ _ _ _ _ (λ state. no_choice task state objects body variables c.args.first bound c.in_default.ensures.none) (h t))
    c.compile.ensures.compiled

pub compile_choices-compile_choices-requires : goal.compile_choices-compile_choices-requires
compile_choices-compile_choices-requires t c =
    let task = c.args.arguments.task.now in
    let objects = c.args.arguments.objects.now in
    let variables = variable_types c.args.quantified.groups.now in
    let body = c.args.quantified.body.now in
    let bound = c.args.room.now.bound.items in
    let more : length c.push.new.self.items ≡ length bound + 1 = pushed_length bound c.loop-index.room.bound.items c.push.new.self.items c.get-object.result c.loop-index.invariant.bound c.in_ok-push.ensures.items in (
      (let lighter : effect_weight body + 2 * length (drop (c.args.first + 1) variables) + 1 < effect_weight body + 2 * length (drop c.args.first variables) + 1 =
          omega (arith, one_less_left (length objects) (length bound) variables c.args.first (conjunction no_parts) c.in-Some.types.now c.in-Some.ensures.some) in
          search rules),
      (
        (let fits : c.args.first + 1 ≤ length c.push.new.self.items = omega (arith, more, c.requires.bound) in fits),
        effect_next_within task (state_of c.args.state.now) objects body variables c.args.first c.in-Some.types.now bound (length objects) c.in-Some.ensures.some (length c.push.new.self.items) (length bound) more c.requires.within,
      ),
    )

pub compile_choices-returns-in_err-compiled-clause-grows : goal.compile_choices-returns-in_err-compiled-clause-grows
compile_choices-returns-in_err-compiled-clause-grows t c = grows_twice c.args.state.now c.loop-index.state c.compile_choices.new.state c.loop-index.invariant.grows c.compile_choices.ensures.grows

pub compile_choices-returns-then-not-compiled-clause-grows : goal.compile_choices-returns-then-not-compiled-clause-grows
compile_choices-returns-then-not-compiled-clause-grows t c = grows_twice c.args.state.now c.loop-index.state c.compile_choices.new.state c.loop-index.invariant.grows c.compile_choices.ensures.grows

pub compile_choices-loop-index-preserved : goal.compile_choices-loop-index-preserved
compile_choices-loop-index-preserved t c =
    let task = c.args.arguments.task.now in
    let objects = c.args.arguments.objects.now in
    let variables = variable_types c.args.quantified.groups.now in
    let body = c.args.quantified.body.now in
    let bound = c.args.room.now.bound.items in
    let types = c.in-Some.types.now in
    let i = c.loop-index.index in
    let object = c.get-object.result in
    let candidates = candidates_of c.candidates-candidates.result in
    let lt : i < length candidates = omega (arith, c.loop-index-test.true, c.len-index-end.ensures) in
    let old = c.args.program.now.items in
    let mid = c.loop-index.program.items in
    let after : ℕ → FoundIn = λ k state. of_some task state objects body variables c.args.first types bound (take k candidates) in
    elim c.if-object_fits.branch [
      | compile_choices-then-object_fits+in_ok-push+in_ok-compiled+else-not-compiled w ↦
          let atoms = w.compile_choices.new.state.atoms in
          let new = w.compile_choices.new.program.items in
          let more : FoundIn = λ state. choices_found task state objects body (drop (c.args.first + 1) variables) (bound ++ object ∷ []) in
          record {
            state = ap state_of w.state-is ∙ w.compile_choices.ensures.state ∙ c.loop-index.invariant.state;
            grows = subst (Grows c.args.state.now) (sym w.state-is) (grows_twice c.args.state.now c.loop-index.state w.compile_choices.new.state c.loop-index.invariant.grows w.compile_choices.ensures.grows);
            bound = ◌∙◌ {A = List ℕ} (ap (λ room. room.bound.items) w.room-is) (let count : w.compile_choices.new.room.bound.len ≡ length w.compile_choices.new.room.bound.items = search (rules, w.compile_choices.new.room.bound.ok) in
                popped bound w.compile_choices.new.room.bound.items w.pop.new.self.items object w.compile_choices.new.room.bound.len count
                (◌∙◌ {A = List ℕ} w.in_ok-compiled.ensures.bound (◌∙◌ {A = List ℕ} w.in_ok-push.ensures.items (ap (λ l. l ++ object ∷ []) c.loop-index.invariant.bound))) w.pop.ensures.rest);
            compiled = subst (λ s. FindsMore task s.atoms old c.if-object_fits.program.items (after (i + 1))) (sym w.state-is)
                (subst (λ l. FindsMore task atoms old l.items (after (i + 1))) (sym w.program-is)
                (more_as atoms old new _ (after (i + 1)) (λ state. one_fits task state objects body variables c.args.first types bound candidates i object lt c.get-object.ensures (sym c.object_fits.ensures ∙ w.if-object_fits.true))
                (more_both c.loop-index.state.atoms atoms w.compile_choices.ensures.grows.numbers old mid new (after i) more c.loop-index.invariant.compiled
                (subst (λ (b : List ℕ). FindsMore task atoms mid new (λ state. choices_found task state objects body (drop (c.args.first + 1) variables) b))
                (◌∙◌ {A = List ℕ} w.in_ok-push.ensures.items (ap (λ l. l ++ object ∷ []) c.loop-index.invariant.bound)) (w.in_ok-compiled.ensures.compiled w.if-not-compiled.false)))));
          }
      | compile_choices-else-object_fits w ↦ record {
        state = ap state_of w.state-is ∙ c.loop-index.invariant.state;
        grows = subst (Grows c.args.state.now) (sym w.state-is) c.loop-index.invariant.grows;
        bound = ◌∙◌ {A = List ℕ} (ap (λ room. room.bound.items) w.room-is) c.loop-index.invariant.bound;
        compiled = subst (λ s. FindsMore task s.atoms old c.if-object_fits.program.items (after (i + 1))) (sym w.state-is)
            (subst (λ l. FindsMore task c.loop-index.state.atoms old l.items (after (i + 1))) (sym w.program-is)
            (more_as c.loop-index.state.atoms old mid (after i) (after (i + 1))
            (λ state. one_unfit task state objects body variables c.args.first types bound candidates i object lt c.get-object.ensures (sym c.object_fits.ensures ∙ w.if-object_fits.false)) c.loop-index.invariant.compiled));
      }
    ]

pub compile_choices-returns-clause-compiled : goal.compile_choices-returns-clause-compiled
compile_choices-returns-clause-compiled t c =
    let candidates = candidates_of c.candidates-candidates.result in
    let past : length candidates ≤ c.loop-index.index = omega (arith, c.loop-index-test.false, c.len-index-end.ensures) in
    λ t. more_as _ _ _ _ _
    (λ state. all_objects c.args.arguments.task.now state c.args.arguments.objects.now c.args.quantified.body.now (variable_types c.args.quantified.groups.now) c.args.first c.in-Some.types.now
    c.args.room.now.bound.items candidates c.in-Some.ensures.some c.candidates-candidates.ensures.all c.loop-index.index past) c.loop-index.invariant.compiled
