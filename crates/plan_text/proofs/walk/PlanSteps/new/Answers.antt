use Rattle.std.proofs.Common.{refl, ap, sym, ◌∙◌, subst, length, arith}
use Rattle.pddl_tokens.specs.Within.{AreWithin}
use Rattle.pddl_tokens.proofs.Within.{pieces_within}
use Rattle.plan_text.specs.PlanReading.{plan_from, nothing_read}
use Rattle.plan_text.proofs.Lemmas.{plan_short, plan_too_long}
use Rattle.plan_text.proofs.walk.PlanSteps.new.Goals as goal

pub invariant_of-result : goal.invariant_of-result
invariant_of-result c =
    let (short, start) = c.in-Ok.ensures.ok in
    (short, subst (AreWithin (length c.args.text.now)) (sym start) (pieces_within c.args.text.now), tt, omega arith)

pub returns-in-Ok : goal.returns-in-Ok
returns-in-Ok c =
    let (short, start) = c.in-Ok.ensures.ok in (
      refl,
      record {
        counted = refl;
        few = omega arith;
        rests = tt;
        same = ap (plan_from c.args.text.now nothing_read) start ∙ plan_short c.args.text.now short;
      },
    )

pub returns-in-Err : goal.returns-in-Err
returns-in-Err c = (c.in-Err.ensures.err, plan_too_long c.args.text.now c.in-Err.ensures.err)
