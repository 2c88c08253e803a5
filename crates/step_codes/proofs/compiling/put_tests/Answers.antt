use Rattle.std.proofs.Common.{◌≤◌, ◌+◌, ◌∙◌, ℕ, List, [], sym, ap, cond, length, take, arith}
use Rattle.std.proofs.lemmas.List.{take_all}
use Rattle.std.specs.List.{list_all}
use Rattle.strips_judge.specs.Choices.{holds_bound}
use Rattle.step_codes.specs.Compiling.{where_it_holds}
use Rattle.step_codes.proofs.CompiledEffects.{more_as, one_more_passes, where_all_hold}
use Rattle.strips_judge.proofs.Evaluations.{part_within}
use Rattle.strips_judge.proofs.Growth.{grows_twice}
use Rattle.step_codes.proofs.compiling.put_tests.Goals as goal

pub put_test-requires-clause-within : goal.put_test-requires-clause-within
put_test-requires-clause-within c =
    let params = length c.args.arguments.objects.now in
    let bound = length c.args.room.now.bound.items in
    part_within params bound c.conjuncts-conjunct-items.result.now c.loop-conjunct.conjunct-index c.conjunct-item.result (length c.loop-conjunct.room.bound.items) c.loop-conjunct-test.true c.conjunct-item.is
    (ap (λ bound. length bound.items) c.loop-conjunct.invariant.bound) (c.conjuncts-conjunct-items.ensures.within params bound c.requires.within)

pub returns-in_err-put_test-clause-grows : goal.returns-in_err-put_test-clause-grows
returns-in_err-put_test-clause-grows c = grows_twice c.args.state.now c.loop-conjunct.state c.put_test.new.state c.loop-conjunct.invariant.grows c.put_test.ensures.grows

pub returns-then-not-branch-clause-grows : goal.returns-then-not-branch-clause-grows
returns-then-not-branch-clause-grows c = grows_twice c.args.state.now c.loop-conjunct.state c.put_test.new.state c.loop-conjunct.invariant.grows c.put_test.ensures.grows

pub loop-conjunct-preserved : goal.loop-conjunct-preserved
loop-conjunct-preserved c =
    let i = c.loop-conjunct.conjunct-index in
    let conjuncts = c.conjuncts-conjunct-items.result.now in
    let objects = c.args.arguments.objects.now in
    let bound = c.args.room.now.bound.items in
    let conjunct = c.conjunct-item.result in
    record {
      state = c.put_test.ensures.state ∙ c.loop-conjunct.invariant.state;
      grows = grows_twice c.args.state.now c.loop-conjunct.state c.put_test.new.state c.loop-conjunct.invariant.grows c.put_test.ensures.grows;
      bound = c.put_test.ensures.bound ∙ c.loop-conjunct.invariant.bound;
      start = (let e : c.args.start ≤ length c.put_test.new.program.items = omega (arith, c.loop-conjunct.invariant.start, c.put_test.ensures.length) in e);
      tested = λ before found start h.
          let parts = c.args.arguments.task.now in
          let so_far = where_all_hold parts objects bound (take i conjuncts) found in
          more_as c.put_test.new.state.atoms before c.put_test.new.program.items (where_it_holds parts objects c.loop-conjunct.room.bound.items conjunct so_far)
          (where_all_hold parts objects bound (take (i + 1) conjuncts) found)
          (λ state truth. ap (λ (b : List ℕ). cond (holds_bound parts state objects b conjunct) (so_far state truth) []) (ap (λ l. l.items) c.loop-conjunct.invariant.bound)
          ∙ one_more_passes (holds_bound parts state objects bound) conjuncts i conjunct (found state truth) c.loop-conjunct-test.true c.conjunct-item.is)
          (c.in_ok-put_test.ensures.tested c.if-not-branch.false before so_far start (c.loop-conjunct.invariant.tested before found start h));
    }

pub returns-clause-tested : goal.returns-clause-tested
returns-clause-tested c = λ t before found start h.
    let parts = c.args.arguments.task.now in
    let conjuncts = c.conjuncts-conjunct-items.result.now in
    let objects = c.args.arguments.objects.now in
    let bound = c.args.room.now.bound.items in
    more_as c.loop-conjunct.state.atoms before c.loop-conjunct.program.items (where_all_hold parts objects bound (take c.loop-conjunct.conjunct-index conjuncts) found)
    (where_it_holds parts objects bound c.args.condition.now found)
    (λ state truth. ap (λ b. cond b (found state truth) [])
    (ap (list_all (holds_bound parts state objects bound)) (take_all c.loop-conjunct.conjunct-index conjuncts c.loop-conjunct-test.false) ∙ sym (c.conjuncts-conjunct-items.ensures.holds parts state objects bound)))
    (c.loop-conjunct.invariant.tested before found start h)
