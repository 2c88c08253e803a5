use Rattle.std.proofs.Common.{◌+◌, true, nat_eq, ◌++◌, length, drop, ap, sym, ◌∙◌, append_assoc}
use Rattle.report_text.specs.Notation.{continued}
use Rattle.report_text.specs.Conditions.{group_words, groups_words}
use Rattle.report_text.proofs.ConditionTexts.{group_more}
use Rattle.report_text.proofs.variables.push_groups.Goals as goal

pub loop-index-preserved : goal.loop-index-preserved
loop-index-preserved c =
    let n = c.args.notation in
    let task = c.args.task.now in
    let groups = c.args.groups.now in
    let i = c.loop-index.index in
    let group = c.index-groups-index.result in
    let now = continued n c.loop-index.begun (group_words n task (nat_eq (i + 1) (length groups)) group) in
    let later = continued n true (groups_words n task (drop (i + 1) groups)) in
    ap (λ l. l ++ later) c.in_ok-push_group.ensures
    ∙ append_assoc c.loop-index.text now later
    ∙ ap (λ l. c.loop-index.text ++ l) (sym (group_more n task c.loop-index.begun groups i group c.loop-index-test.true c.index-groups-index.is))
    ∙ c.loop-index.invariant
