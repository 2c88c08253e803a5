use Rattle.std.proofs.Common.{◌≡◌, ℕ, ◌+◌, ◌-◌, get_or, ap, sym, ◌∙◌, arith}
use Rattle.std.proofs.lemmas.Bool.{leb-true, leb-false}
use Rattle.pddl_words.specs.Pairs.{goes_on}
use Rattle.pddl_tokens.proofs.NamePairs.{moved}
use Rattle.pddl_tokens.proofs.scan.all_go_on.Goals as goal

pub returns-clause-all : goal.returns-clause-all
returns-clause-all c = λ is k low high.
    let list = c.args.list.now in
    let many = leb-true 32 c.names_len.result is in
    let back : c.args.at + (k - c.args.at) ≡ k = omega arith in
    ap (λ (j : ℕ). goes_on (get_or list j 0) (get_or list (j + 1) 0)) (sym back)
    ∙ sym (moved list c.args.at (k - c.args.at)) ∙ c.names_len.ensures.before (k - c.args.at) (omega arith) (omega (arith, many))

pub returns-clause-other : goal.returns-clause-other
returns-clause-other c = λ is.
    let few = leb-false 32 c.names_len.result is in (
      c.args.at + c.names_len.result,
      omega arith,
      omega (arith, few),
      sym (moved c.args.list.now c.args.at c.names_len.result) ∙ c.names_len.ensures.end few,
    )
