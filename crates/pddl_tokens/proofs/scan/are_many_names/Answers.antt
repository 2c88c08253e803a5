use Rattle.std.proofs.Common.{◌<◌, ◌≤◌, length, ◌∙◌, arith, ⊎_elim}
use Rattle.std.proofs.lemmas.Bool.{cases_lt}
use Rattle.pddl_tokens.proofs.NamePairs.{AllGoOn, all_seen, one_seen}
use Rattle.pddl_tokens.proofs.scan.are_many_names.Goals as goal

pub returns-then-not-all_go_on : goal.returns-then-not-all_go_on
returns-then-not-all_go_on c =
    let stop = c.all_go_on.ensures.other c.if-not-all_go_on.true in
    one_seen c.args.list.now c.args.key.now stop.0 c.requires.begins (omega (arith, stop.2, c.vectors-test.true)) stop.3

pub returns-then-all_go_on : goal.returns-then-all_go_on
returns-then-all_go_on c =
    let all : AllGoOn c.args.list.now (length c.args.key.now) = λ k lt.
    ⊎_elim
    (λ (before : k < c.vectors.at). c.vectors.invariant k before)
    (λ (behind : c.vectors.at ≤ k). c.all_go_on-2.ensures.all c.if-all_go_on.true k (omega (arith, c.vectors-test.false)) (omega (arith, c.requires.many)))
    (cases_lt k c.vectors.at)
    in
    all_seen c.args.list.now c.args.key.now c.requires.begins (omega (arith, c.requires.many)) all

pub returns-else-all_go_on : goal.returns-else-all_go_on
returns-else-all_go_on c =
    let stop = c.all_go_on-2.ensures.other c.if-all_go_on.false in
    c.if-all_go_on.false ∙ one_seen c.args.list.now c.args.key.now stop.0 c.requires.begins (omega (arith, stop.2, c.requires.many)) stop.3
