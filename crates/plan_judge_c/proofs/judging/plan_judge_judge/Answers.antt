use Rattle.std.proofs.Common.{◌∙◌, sym}
use Rattle.plan_judge_c.proofs.Answering.{report_is}
use Rattle.plan_judge_c.proofs.judging.plan_judge_judge.Goals as goal

pub returns-clause-made : goal.returns-clause-made
returns-clause-made c =
    λ is. let made = c.judge_texts.ensures.made is in
    let same = report_is c.args.texts.now c.args.format c.in-Some.dialect c.in-Some-format_numbered.format (sym c.in-Some.ensures) (sym c.in-Some-format_numbered.ensures) in
    (made.0, same ∙ made.1, made.2)

pub returns-clause-refused : goal.returns-clause-refused
returns-clause-refused c =
    λ is. let refused = c.judge_texts.ensures.refused is in
    let same = report_is c.args.texts.now c.args.format c.in-Some.dialect c.in-Some-format_numbered.format (sym c.in-Some.ensures) (sym c.in-Some-format_numbered.ensures) in
    (same ∙ refused.0, refused.1, (c.in-Some.dialect, sym c.in-Some.ensures, refused.2.0, refused.2.1), refused.3)
