use Rattle.std.proofs.Common.{rules, ◌<◌, ◌≤◌, ◌+◌, ◌*◌, ◌||◌, ℕ, true, not, List, drop, length, sym, ap, subst, nat_eq, ◌∙◌, arith}
use Rattle.std.proofs.lemmas.Option.{get_or_from_slice_get}
use Rattle.std.specs.Bool.{beq}
use Rattle.formulas.specs.declared.variables.VariableGroup.{VariableGroup}
use Rattle.formulas.specs.Meaning.{atom_of, object_of, signed}
use Rattle.formulas.specs.Nodes.{tree_of}
use Rattle.formulas.specs.Tree.{parts_of}
use Rattle.formulas.specs.Variables.{extensions, variable_types}
use Rattle.formulas.specs.Within.{IsPatternWithin, IsTermWithin, IsWithin}
use Rattle.strips_judge.specs.Choices.{holds_bound, some_choice_gives}
use Rattle.strips_judge.specs.Listing.{candidates_of}
use Rattle.strips_judge.specs.NumberedState.{state_of}
use Rattle.strips_judge.specs.State.{objects_of}
use Rattle.strips_judge.proofs.Weights.{weight, most_weight, weighs_less, conjunction_heavier, disjunction_heavier}
use Rattle.strips_judge.proofs.Evaluations.{some_true, conjunction_is, disjunction_is, all_is, no_variables, first_variable, drop_at, drop_past, conjunction_within, disjunction_within, part_within, one_less_left, next_within, all_within, gives_now, object_found, object_unfit, object_otherwise, no_object}
use Rattle.strips_judge.proofs.Gathering.{ok_as}
use Rattle.strips_judge.proofs.VerdictLaws.{success_as}
use Rattle.strips_judge.proofs.evaluation.+evaluate.Goals as goal
use Rattle.strips_judge.proofs.evaluation.+evaluate.Goals.{some_object_gives-else-object_fits-via-then-object_fits+in_ok-object_gives+else-branch, some_object_gives-else-object_fits-via-else-object_fits}

pub evaluate-atom_holds-requires : goal.evaluate-atom_holds-requires
evaluate-atom_holds-requires t c =
    let params = length c.args.objects.now in
    subst (λ (l : List ℕ). IsPatternWithin params (length l) c.in-Atom.pattern) (sym c.as_slice-bound.ensures.value)
    (subst (IsWithin params (length c.args.room.now.bound.items)) (sym c.node.ensures ∙ ap tree_of c.in-Atom.is) c.requires)

pub evaluate-returns-in-Atom-clause-answer : goal.evaluate-returns-in-Atom-clause-answer
evaluate-returns-in-Atom-clause-answer t c =
    let state = state_of c.args.state.now in
    let objects = c.args.objects.now in
    let is = sym c.node.ensures ∙ ap tree_of c.in-Atom.is in
    success_as _ _ c.atom_holds.result
    (λ answer says. says ∙ ap (λ (l : List ℕ). signed c.in-Atom.positive (state (atom_of objects l c.in-Atom.pattern))) c.as_slice-bound.ensures.value
    ∙ ap (holds_bound c.args.task.now state objects c.args.room.now.bound.items) (sym is))
    c.atom_holds.ensures.answer

pub evaluate-equality_holds-requires : goal.evaluate-equality_holds-requires
evaluate-equality_holds-requires t c =
    let params = length c.args.objects.now in
    subst (λ (l : List ℕ). IsTermWithin params (length l) c.in-Equal.left × IsTermWithin params (length l) c.in-Equal.right) (sym c.as_slice.ensures.value)
    (subst (IsWithin params (length c.args.room.now.bound.items)) (sym c.node.ensures ∙ ap tree_of c.in-Equal.is) c.requires)

pub evaluate-returns-in-Equal-clause-answer : goal.evaluate-returns-in-Equal-clause-answer
evaluate-returns-in-Equal-clause-answer t c =
    let objects = c.args.objects.now in
    let is = sym c.node.ensures ∙ ap tree_of c.in-Equal.is in
    c.equality_holds.ensures
    ∙ ap (λ (l : List ℕ). signed c.in-Equal.positive (nat_eq (object_of objects l c.in-Equal.left) (object_of objects l c.in-Equal.right))) c.as_slice.ensures.value
    ∙ ap (holds_bound c.args.task.now (state_of c.args.state.now) objects c.args.room.now.bound.items) (sym is)

pub evaluate-evaluate-requires : goal.evaluate-evaluate-requires
evaluate-evaluate-requires t c =
    let within = IsWithin (length c.args.objects.now) (length c.args.room.now.bound.items) in
    let is = sym c.node.ensures ∙ ap tree_of c.in-Not.is in (
      (let lighter : weight c.deref.result.now < weight c.args.formula.now = omega (arith, ap weight is, ap weight c.deref.ensures) in search rules),
      subst within (sym c.deref.ensures) (subst within is c.requires),
    )

pub evaluate-returns-in_ok-evaluate-in-Not-clause-answer : goal.evaluate-returns-in_ok-evaluate-in-Not-clause-answer
evaluate-returns-in_ok-evaluate-in-Not-clause-answer t c =
    let holds = holds_bound c.args.task.now (state_of c.args.state.now) c.args.objects.now c.args.room.now.bound.items in
    let is = sym c.node.ensures ∙ ap tree_of c.in-Not.is in
    ap not (c.in_ok-evaluate-in-Not.ensures.answer ∙ ap holds c.deref.ensures) ∙ ap holds (sym is)

pub evaluate-evaluate-requires-in-Imply : goal.evaluate-evaluate-requires-in-Imply
evaluate-evaluate-requires-in-Imply t c =
    let within = IsWithin (length c.args.objects.now) (length c.args.room.now.bound.items) in
    let is = sym c.node.ensures ∙ ap tree_of c.in-Imply.is in (
      (let lighter : weight c.deref-in-Imply.result.now < weight c.args.formula.now = omega (arith, ap weight is, ap weight c.deref-in-Imply.ensures) in search rules),
      subst within (sym c.deref-in-Imply.ensures) (subst within is c.requires).0,
    )

pub evaluate-evaluate-requires-in-Imply-2 : goal.evaluate-evaluate-requires-in-Imply-2
evaluate-evaluate-requires-in-Imply-2 t c =
    let params = length c.args.objects.now in
    let within = IsWithin params (length c.args.room.now.bound.items) in
    let is = sym c.node.ensures ∙ ap tree_of c.in-Imply.is in (
      (let lighter : weight c.deref-in-Imply-2.result.now < weight c.args.formula.now = omega (arith, ap weight is, ap weight c.deref-in-Imply-2.ensures) in search rules),
      subst (λ (l : List ℕ). IsWithin params (length l) c.deref-in-Imply-2.result.now) (sym c.in_ok-evaluate-in-Imply.ensures.bound)
          (subst within (sym c.deref-in-Imply-2.ensures) (subst within is c.requires).1),
    )

pub evaluate-returns-then-not-branch-clause-answer : goal.evaluate-returns-then-not-branch-clause-answer
evaluate-returns-then-not-branch-clause-answer t c =
    let holds = holds_bound c.args.task.now (state_of c.args.state.now) c.args.objects.now c.args.room.now.bound.items in
    let is = sym c.node.ensures ∙ ap tree_of c.in-Imply.is in
    let premise = sym (c.in_ok-evaluate-in-Imply.ensures.answer ∙ ap holds c.deref-in-Imply.ensures) ∙ c.if-not-branch.true in
    sym (ap holds is ∙ ap (λ b. not b || holds c.in-Imply.conclusion.value) premise)

pub evaluate-returns-else-not-branch-clause-answer : goal.evaluate-returns-else-not-branch-clause-answer
evaluate-returns-else-not-branch-clause-answer t c =
    let task = c.args.task.now in
    let objects = c.args.objects.now in
    let holds = holds_bound task (state_of c.args.state.now) objects c.args.room.now.bound.items in
    let is = sym c.node.ensures ∙ ap tree_of c.in-Imply.is in
    let premise = sym (c.in_ok-evaluate-in-Imply.ensures.answer ∙ ap holds c.deref-in-Imply.ensures) ∙ c.if-not-branch.false in
    success_as _ _ c.evaluate-in-Imply-2.result
    (λ answer says. says
    ∙ (λ j. holds_bound task (state_of (c.evaluate-in-Imply.ensures.same j)) objects (c.in_ok-evaluate-in-Imply.ensures.bound j) (c.deref-in-Imply-2.ensures j))
    ∙ sym (ap holds is ∙ ap (λ b. not b || holds c.in-Imply.conclusion.value) premise))
    c.evaluate-in-Imply-2.ensures.answer

pub evaluate-returns-else-not-branch-clause-bound : goal.evaluate-returns-else-not-branch-clause-bound
evaluate-returns-else-not-branch-clause-bound t c =
    ok_as c.evaluate-in-Imply-2.result (λ same. ◌∙◌ {A = List ℕ} same c.in_ok-evaluate-in-Imply.ensures.bound) c.evaluate-in-Imply-2.ensures.bound

pub evaluate-some_choice-requires : goal.evaluate-some_choice-requires
evaluate-some_choice-requires t c =
    let params = length c.args.objects.now in
    let bound = length c.args.room.now.bound.items in
    let is = sym c.node.ensures ∙ ap tree_of c.in-Exists.is in (
      (let lighter : weight c.deref-in-Exists.result.now + 4 * length (variable_types c.as_slice-in-Exists.result.now) + 2 < weight c.args.formula.now =
          omega (arith, ap weight is, ap weight c.deref-in-Exists.ensures, ap (λ l. length (variable_types l)) c.as_slice-in-Exists.ensures) in
          search rules),
      subst (λ (groups : List VariableGroup). IsWithin params (bound + length (variable_types groups)) c.deref-in-Exists.result.now) (sym c.as_slice-in-Exists.ensures)
          (subst (IsWithin params (bound + length (variable_types c.in-Exists.groups))) (sym c.deref-in-Exists.ensures) (subst (IsWithin params bound) is c.requires)),
    )

pub evaluate-some_choice-requires-in-ForAll : goal.evaluate-some_choice-requires-in-ForAll
evaluate-some_choice-requires-in-ForAll t c =
    let params = length c.args.objects.now in
    let bound = length c.args.room.now.bound.items in
    let is = sym c.node.ensures ∙ ap tree_of c.in-ForAll.is in (
      (let lighter : weight c.deref-in-ForAll.result.now + 4 * length (variable_types c.as_slice-in-ForAll.result.now) + 2 < weight c.args.formula.now =
          omega (arith, ap weight is, ap weight c.deref-in-ForAll.ensures, ap (λ l. length (variable_types l)) c.as_slice-in-ForAll.ensures) in
          search rules),
      subst (λ (groups : List VariableGroup). IsWithin params (bound + length (variable_types groups)) c.deref-in-ForAll.result.now) (sym c.as_slice-in-ForAll.ensures)
          (subst (IsWithin params (bound + length (variable_types c.in-ForAll.groups))) (sym c.deref-in-ForAll.ensures) (subst (IsWithin params bound) is c.requires)),
    )

pub evaluate-returns-in-Exists-clause-answer : goal.evaluate-returns-in-Exists-clause-answer
evaluate-returns-in-Exists-clause-answer t c =
    let task = c.args.task.now in
    let state = state_of c.args.state.now in
    let objects = c.args.objects.now in
    let bound = c.args.room.now.bound.items in
    let is = sym c.node.ensures ∙ ap tree_of c.in-Exists.is in
    success_as _ _ c.some_choice.result
    (λ answer says. says ∙ (λ j. some_choice_gives task state objects true (c.deref-in-Exists.ensures j) (variable_types (c.as_slice-in-Exists.ensures j)) bound)
    ∙ some_true (λ extended. holds_bound task state objects extended c.in-Exists.body.value) (extensions (objects_of task) (variable_types c.in-Exists.groups) bound)
    ∙ ap (holds_bound task state objects bound) (sym is))
    c.some_choice.ensures.answer

pub evaluate-some_is-requires : goal.evaluate-some_is-requires
evaluate-some_is-requires t c =
    let is = sym c.node.ensures ∙ ap tree_of c.in-And.is in (
      (let lighter : most_weight (parts_of c.deref-in-And.result.now) + 1 < weight c.args.formula.now =
          conjunction_heavier c.args.formula.now c.in-And.parts.items c.deref-in-And.result.now c.deref-in-And.ensures.value is in
          search rules),
      conjunction_within (length c.args.objects.now) (length c.args.room.now.bound.items) c.args.formula.now c.in-And.parts.items c.deref-in-And.result.now is c.deref-in-And.ensures.value c.requires,
    )

pub evaluate-some_is-requires-in-Or : goal.evaluate-some_is-requires-in-Or
evaluate-some_is-requires-in-Or t c =
    let is = sym c.node.ensures ∙ ap tree_of c.in-Or.is in (
      (let lighter : most_weight (parts_of c.deref-in-Or.result.now) + 1 < weight c.args.formula.now =
          disjunction_heavier c.args.formula.now c.in-Or.parts.items c.deref-in-Or.result.now c.deref-in-Or.ensures.value is in
          search rules),
      disjunction_within (length c.args.objects.now) (length c.args.room.now.bound.items) c.args.formula.now c.in-Or.parts.items c.deref-in-Or.result.now is c.deref-in-Or.ensures.value c.requires,
    )

pub evaluate-returns-in_ok-some_is-in-And-clause-answer : goal.evaluate-returns-in_ok-some_is-in-And-clause-answer
evaluate-returns-in_ok-some_is-in-And-clause-answer t c =
    conjunction_is c.args.task.now (state_of c.args.state.now) c.args.objects.now c.args.room.now.bound.items c.args.formula.now c.in-And.parts.items c.deref-in-And.result.now _
    (sym c.node.ensures ∙ ap tree_of c.in-And.is) c.deref-in-And.ensures.value c.in_ok-some_is-in-And.ensures.answer

pub evaluate-returns-in-Or-clause-answer : goal.evaluate-returns-in-Or-clause-answer
evaluate-returns-in-Or-clause-answer t c =
    success_as _ _ c.some_is-in-Or.result
    (λ answer is. disjunction_is c.args.task.now (state_of c.args.state.now) c.args.objects.now c.args.room.now.bound.items c.args.formula.now c.in-Or.parts.items c.deref-in-Or.result.now answer
    (sym c.node.ensures ∙ ap tree_of c.in-Or.is) c.deref-in-Or.ensures.value is)
    c.some_is-in-Or.ensures.answer

pub evaluate-returns-in_ok-some_choice-in-ForAll-clause-answer : goal.evaluate-returns-in_ok-some_choice-in-ForAll-clause-answer
evaluate-returns-in_ok-some_choice-in-ForAll-clause-answer t c =
    all_is c.args.task.now (state_of c.args.state.now) c.args.objects.now c.args.room.now.bound.items c.args.formula.now c.in-ForAll.body.value c.deref-in-ForAll.result.now c.in-ForAll.groups c.as_slice-in-ForAll.result.now _
    (sym c.node.ensures ∙ ap tree_of c.in-ForAll.is) c.deref-in-ForAll.ensures c.as_slice-in-ForAll.ensures c.in_ok-some_choice-in-ForAll.ensures.answer

pub some_choice_gives-overflow_add-first : goal.some_choice_gives-overflow_add-first
some_choice_gives-overflow_add-first t c = search (rules, c.args.room.now.bound.ok, c.args.room.now.bound.small, c.requires.bound)

pub some_choice_gives-some_object_gives-requires : goal.some_choice_gives-some_object_gives-requires
some_choice_gives-some_object_gives-requires t c =
    let variables = variable_types c.args.quantified.now.groups.now in
    let body = c.args.quantified.now.body.now in
    let params = length c.args.objects.now in
    let bound = length c.args.room.now.bound.items in (
      (let lighter : weight body + 4 * length (drop (c.args.first + 1) variables) + 3 < weight body + 4 * length (drop c.args.first variables) + 1 =
          omega (arith, one_less_left params bound variables c.args.first body c.in-Some.types.now c.in-Some.ensures.some) in
          search rules),
      (
        (let fits : c.args.first + 1 ≤ bound + 1 = omega (arith, c.requires.bound) in fits),
        next_within params bound variables c.args.first body c.in-Some.types.now c.in-Some.ensures.some c.requires.within,
      ),
    )

pub some_choice_gives-evaluate-requires : goal.some_choice_gives-evaluate-requires
some_choice_gives-evaluate-requires t c =
    let variables = variable_types c.args.quantified.now.groups.now in
    let body = c.args.quantified.now.body.now in (
      (let lighter : weight body < weight body + 4 * length (drop c.args.first variables) + 1 = omega arith in search rules),
      all_within (length c.args.objects.now) (length c.args.room.now.bound.items) variables c.args.first body c.in-None.ensures.none c.requires.within,
    )

pub some_choice_gives-returns-in-Some-clause-answer : goal.some_choice_gives-returns-in-Some-clause-answer
some_choice_gives-returns-in-Some-clause-answer t c =
    let variables = variable_types c.args.quantified.now.groups.now in
    let task = c.args.task.now in
    let state = state_of c.args.state.now in
    let objects = c.args.objects.now in
    let truth = c.args.quantified.now.truth in
    let body = c.args.quantified.now.body.now in
    let bound = c.args.room.now.bound.items in
    success_as _ _ c.some_object_gives.result
    (λ answer is. is ∙ sym (ap (λ l. some_choice_gives task state objects truth body l bound) (drop_at variables c.args.first c.in-Some.types.now c.in-Some.ensures.some)
    ∙ first_variable task state objects truth body c.in-Some.types.now (drop (c.args.first + 1) variables) bound))
    c.some_object_gives.ensures.answer

pub some_choice_gives-returns-in_ok-evaluate-in-None-clause-answer : goal.some_choice_gives-returns-in_ok-evaluate-in-None-clause-answer
some_choice_gives-returns-in_ok-evaluate-in-None-clause-answer t c =
    let variables = variable_types c.args.quantified.now.groups.now in
    let task = c.args.task.now in
    let state = state_of c.args.state.now in
    let objects = c.args.objects.now in
    let truth = c.args.quantified.now.truth in
    let body = c.args.quantified.now.body.now in
    let bound = c.args.room.now.bound.items in
    ap (λ b. beq b truth) c.in_ok-evaluate-in-None.ensures.answer
    ∙ sym (no_variables task state objects truth body bound)
    ∙ ap (λ l. some_choice_gives task state objects truth body l bound) (sym (drop_past variables c.args.first c.in-None.ensures.none))

pub some_is-evaluate-requires : goal.some_is-evaluate-requires
some_is-evaluate-requires t c = (
  (let lighter : weight c.formula-item.result ≤ most_weight (parts_of c.args.formulas.now) =
      weighs_less c.args.formulas.now c.loop-formula.formula-index c.formula-item.result c.loop-formula-test.true c.formula-item.is in
      search rules),
  part_within (length c.args.objects.now) (length c.args.room.now.bound.items) c.args.formulas.now c.loop-formula.formula-index c.formula-item.result (length c.loop-formula.room.bound.items)
      c.loop-formula-test.true c.formula-item.is (ap length c.loop-formula.invariant.bound) c.requires,
)

pub some_object_gives-object_fits-requires : goal.some_object_gives-object_fits-requires
some_object_gives-object_fits-requires t c =
    let candidates = candidates_of c.candidates-candidates.result in
    let object = c.get-object.result in
    let lt : c.loop-index.index < length candidates = omega (arith, c.loop-index-test.true, c.len-index-end.ensures) in
    subst (λ n. n < length c.args.task.now.objects) (get_or_from_slice_get candidates c.loop-index.index object object c.get-object.ensures)
    (c.candidates-candidates.ensures.known c.loop-index.index object lt)

pub some_object_gives-returns-then-branch-clause-answer : goal.some_object_gives-returns-then-branch-clause-answer
some_object_gives-returns-then-branch-clause-answer t c =
    let task = c.args.task.now in
    let objects = c.args.objects.now in
    let truth = c.args.quantified.now.truth in
    let body = c.args.quantified.now.body.now in
    let variables = drop c.args.next (variable_types c.args.quantified.now.groups.now) in
    let candidates = candidates_of c.candidates-candidates.result in
    let object = c.get-object.result in
    let lt : c.loop-index.index < length candidates = omega (arith, c.loop-index-test.true, c.len-index-end.ensures) in
    sym (object_found task (state_of c.args.state.now) objects truth body variables c.args.room.now.bound.items c.args.types.now candidates c.candidates-candidates.ensures.all c.loop-index.index c.loop-index.invariant.left
    object lt c.get-object.ensures (sym c.if-object_fits.ensures)
    (gives_now task objects truth body variables object c.args.state.now c.loop-index.state c.args.room.now.bound.items c.loop-index.room.bound.items c.loop-index.invariant.same c.loop-index.invariant.bound
    c.in_ok-object_gives.ensures.answer c.if-branch.true))

pub some_object_gives-loop-index-preserved : goal.some_object_gives-loop-index-preserved
some_object_gives-loop-index-preserved t c =
    let task = c.args.task.now in
    let objects = c.args.objects.now in
    let truth = c.args.quantified.now.truth in
    let body = c.args.quantified.now.body.now in
    let variables = drop c.args.next (variable_types c.args.quantified.now.groups.now) in
    let candidates = candidates_of c.candidates-candidates.result in
    let object = c.get-object.result in
    let lt : c.loop-index.index < length candidates = omega (arith, c.loop-index-test.true, c.len-index-end.ensures) in
    elim c.else-object_fits.branch [
      | some_object_gives-else-object_fits-via-then-object_fits+in_ok-object_gives+else-branch w ↦ record {
        left = object_otherwise task (state_of c.args.state.now) objects truth body variables c.args.room.now.bound.items c.args.types.now candidates c.candidates-candidates.ensures.all c.loop-index.index c.loop-index.invariant.left
            object lt c.get-object.ensures
            (gives_now task objects truth body variables object c.args.state.now c.loop-index.state c.args.room.now.bound.items c.loop-index.room.bound.items c.loop-index.invariant.same c.loop-index.invariant.bound
            w.in_ok-object_gives.ensures.answer w.if-branch.false);
        same = w.state-is ∙ w.object_gives.ensures.same ∙ c.loop-index.invariant.same;
        bound = ◌∙◌ {A = List ℕ} (ap (λ room. room.bound.items) w.room-is) (◌∙◌ {A = List ℕ} w.in_ok-object_gives.ensures.bound c.loop-index.invariant.bound);
      }
      | some_object_gives-else-object_fits-via-else-object_fits w ↦ record {
        left = object_unfit task (state_of c.args.state.now) objects truth body variables c.args.room.now.bound.items c.args.types.now candidates c.candidates-candidates.ensures.all c.loop-index.index c.loop-index.invariant.left
            object lt c.get-object.ensures (sym w.if-object_fits.ensures);
        same = w.state-is ∙ c.loop-index.invariant.same;
        bound = ◌∙◌ {A = List ℕ} (ap (λ room. room.bound.items) w.room-is) c.loop-index.invariant.bound;
      }
    ]

pub some_object_gives-returns-clause-answer : goal.some_object_gives-returns-clause-answer
some_object_gives-returns-clause-answer t c =
    let candidates = candidates_of c.candidates-candidates.result in
    let past : length candidates ≤ c.loop-index.index = omega (arith, c.loop-index-test.false, c.len-index-end.ensures) in
    sym (no_object c.args.task.now (state_of c.args.state.now) c.args.objects.now c.args.quantified.now.truth c.args.quantified.now.body.now (drop c.args.next (variable_types c.args.quantified.now.groups.now))
    c.args.room.now.bound.items c.args.types.now candidates c.candidates-candidates.ensures.all c.loop-index.index c.loop-index.invariant.left past)
