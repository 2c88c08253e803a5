use Rattle.std.proofs.Common.{◌≡◌, ◌++◌, ◌∷◌, [], ap, sym, ◌∙◌}
use Rattle.strips_task.specs.declared.plans.Plan.{Plan}
use Rattle.strips_task.specs.declared.plans.Plan.TheVariants.{Steps, Unreadable}
use Rattle.plan_text.specs.PlanReading.{plan_of}
use Rattle.text_judge.proofs.Histories.{follows_all, follows_some}
use Rattle.text_judge.proofs.judge.follow.Goals as goal
use Rattle.text_judge.proofs.judge.follow.Goals.{in-All, in-Unreadable, in-Fails}

pub returns-clause-watched : goal.returns-clause-watched
returns-clause-watched c =
    let old = c.args.judge.now.task in
    let walk = c.watch_steps.new.walk in
    let judging = c.watch_steps.new.judge in
    let atoms = c.args.atoms.now in
    let watches = c.watch_steps.new.watches in
    elim c.match-branch-2.branch [
      | in-All w ↦
          let end = rw w.in-All.is at c.in_ok-watch_steps.ensures.passed in
          rw w.result-is (λ all given. follows_all old judging end.0 all atoms watches walk.text c.args.walk.now.text c.in_ok-watch_steps.ensures.task end.1 end.2
          c.in_ok-watch_steps.ensures.text given end.3)
      | in-Unreadable w ↦
          let end = rw w.in-Unreadable.is at c.in_ok-watch_steps.ensures.passed in
          rw w.result-is (λ all given.
          let clash : ◌≡◌ {A = Plan} (Unreadable w.in-Unreadable.line) (Steps all) = sym end ∙ ap plan_of c.in_ok-watch_steps.ensures.text ∙ given in cc)
      | in-Fails w ↦
          let end = rw w.in-Fails.is at c.in_ok-watch_steps.ensures.passed in
          rw w.result-is (λ all given. follows_some old walk judging w.in-Fails.step w.in-Fails.why w.in-Fails.place end.0 all atoms watches c.args.walk.now.text w.fault_behind.result
          c.in_ok-watch_steps.ensures.task (w.fault_behind.ensures (end.0.before ++ end.0.step ∷ []) end.0.passed) c.in_ok-watch_steps.ensures.text given end.1)
    ]
