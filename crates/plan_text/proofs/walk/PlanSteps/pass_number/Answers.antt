use Rattle.std.proofs.Common.{sym, ◌∙◌}
use Rattle.pddl_tokens.specs.declared.spans.TokenKind.TheVariants.{Word}
use Rattle.plan_text.proofs.WalkLemmas.{goes_on_behind, number_read}
use Rattle.plan_text.proofs.walk.PlanSteps.pass_number.Goals as goal

pub invariant_of-self : goal.invariant_of-self
invariant_of-self c =
    let (span, first) = c.in-Some.ensures in
    let (short, within, rests, few) = c.self.invariant in
    let read = number_read _ c.self.inside.expected c.in-Some-read_number.next c.self.inside.count _ _ Word span _ first within rests c.in-Some-read_number.ensures (sym c.takes_name.ensures ∙ c.if-takes_name.false) in
    (short, read.within, read.rests, few)

pub returns-clause-passed : goal.returns-clause-passed
returns-clause-passed c = λ _.
    let (span, first) = c.in-Some.ensures in
    let (short, within, rests, few) = c.self.invariant in
    goes_on_behind _ _ c.self.inside.expected c.in-Some-read_number.next c.self.inside.count _ _ c.self.view_is
    (number_read _ c.self.inside.expected c.in-Some-read_number.next c.self.inside.count _ _ Word span _ first within rests c.in-Some-read_number.ensures (sym c.takes_name.ensures ∙ c.if-takes_name.false))
