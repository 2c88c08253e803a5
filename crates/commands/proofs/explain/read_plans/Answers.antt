use Rattle.std.proofs.Common.{◌≡◌, ◌++◌, ◌∷◌, [], map, ap, ◌∙◌}
use Rattle.std.proofs.lemmas.List.{map-append}
use Rattle.commands.proofs.Texts.{text_pushed}
use Rattle.commands.proofs.explain.read_plans.Goals as goal

pub loop-name-preserved : goal.loop-name-preserved
loop-name-preserved g c =
    let read = c.in_ok-read.field-0 in
    let before = c.loop-name.plans.items in
    let after = c.push.new.self.items in
    let may_hold = g.S.Sources.may_hold c.args.sources.now in
    let pushed : after ≡ before ++ read ∷ [] = c.in_ok-push.ensures.items in
    text_pushed may_hold c.args.names.now c.loop-name.name-index _ (map (λ plan. plan.bytes.items) before) (map (λ plan. plan.bytes.items) after) read.bytes.items c.loop-name-test.true c.loop-name.invariant
    c.in_ok-read.ensures
    (ap (map (λ plan. plan.bytes.items)) pushed ∙ map-append (λ plan. plan.bytes.items) before (read ∷ []))
