use Rattle.std.proofs.Common.{◌+◌, ◌<◌, List, ℕ, length, sym, ap, subst, arith}
use Rattle.pddl_tokens.specs.Within.{AreWithin}
use Rattle.pddl_tokens.proofs.NamesArePlain.{names_are_plain}
use Rattle.plan_text.specs.Walks.{RestsAt}
use Rattle.plan_text.specs.declared.want.Expected.{Expected}
use Rattle.plan_text.proofs.WholeSteps.{skips_range}
use Rattle.plan_text.proofs.walk.PlanSteps.skip.Goals as goal
use Rattle.strips_task.specs.declared.steps.TheConstants.{MOST_STEPS}

pub invariant_of-self : goal.invariant_of-self
invariant_of-self c =
    let room : c.self.inside.count < MOST_STEPS = subst (λ (count : ℕ). count < MOST_STEPS) (sym (ap (λ w. w.count) c.self.view_is)) c.requires.next.room in (
      c.self.invariant.0,
      subst (λ (text : List ℕ). AreWithin (length text) c.args.range.rest) (sym (ap (λ w. w.text) c.self.view_is)) (c.requires.next.within (names_are_plain c.args.range.key.now c.requires.spelled)),
      subst (λ (e : Expected). RestsAt e.want (c.self.inside.count + 1)) (sym c.then-self-inside.ensures) tt,
      omega (arith, room),
    )

pub returns : goal.returns
returns c =
    skips_range c.args.self.now c.args.range c.self.inside.text.now c.self.inside.cursor c.self.inside.expected _ c.self.inside.count c.self.view_is c.then-self-inside.ensures c.requires.next c.requires.spelled
