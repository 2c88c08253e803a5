use Rattle.std.proofs.Common.{◌≡◌, ◌<◌, ◌-◌, ℕ, length, take, drop, ap, ◌∙◌, sym, arith, tests}
use Rattle.std.proofs.lemmas.List.Elements.{All-from_get_or}
use Rattle.pddl_words.specs.JoinedBytes.{joined}
use Rattle.pddl_words.proofs.SameBytes.{all_same, more_same, rest_all}
use Rattle.pddl_words.proofs.same_bytes.are_words_same.Goals as goal

pub loop-at-preserved : goal.loop-at-preserved
loop-at-preserved c =
    let bytes = All-from_get_or (λ x. x < 256) c.args.a.now 0 (λ i lt. omega (arith, c.type_inv.a i)) in
    let others = All-from_get_or (λ x. x < 256) c.args.b.now 0 (λ i lt. omega (arith, c.type_inv.b i)) in
    let eight : c.eight.result ≡ c.eight-in-loop-at.result = grind (arith, tests, c.if-eight.false) in
    more_same c.loop-at.at c.args.a.now c.args.b.now (omega (arith, c.loop-at-test.true, c.requires.long)) c.requires.same bytes others c.loop-at.invariant
    (ap (λ l. joined (take 8 l)) (sym (rest_all c.loop-at.at c.args.a.now)) ∙ sym c.eight.ensures ∙ eight ∙ c.eight-in-loop-at.ensures
    ∙ ap (λ l. joined (take 8 l)) (rest_all c.loop-at.at c.args.b.now))

pub returns : goal.returns
returns c = (
  λ is.
      let bytes = All-from_get_or (λ x. x < 256) c.args.a.now 0 (λ i lt. omega (arith, c.type_inv.a i)) in
      let others = All-from_get_or (λ x. x < 256) c.args.b.now 0 (λ i lt. omega (arith, c.type_inv.b i)) in
      let eight : c.eight-2.result ≡ c.eight-3.result = grind (arith, tests, is) in
      all_same c.loop-at.at (length c.args.a.now - 8) c.args.a.now c.args.b.now (omega (arith, c.loop-at-test.false)) (omega (arith, c.requires.long)) c.requires.same bytes others
      c.loop-at.invariant
      (ap (λ l. joined (take 8 l)) (sym (rest_all (length c.args.a.now - 8) c.args.a.now)) ∙ sym c.eight-2.ensures ∙ eight ∙ c.eight-3.ensures
      ∙ ap (λ l. joined (take 8 l)) (rest_all (length c.args.a.now - 8) c.args.b.now)),
  λ same.
      let last : ℕ = length c.args.a.now - 8 in
      let eight : c.eight-2.result ≡ c.eight-3.result =
      c.eight-2.ensures ∙ ap (λ l. joined (take 8 l)) (rest_all last c.args.a.now ∙ ap (drop last) same ∙ sym (rest_all last c.args.b.now)) ∙ sym c.eight-3.ensures in
      grind (arith, tests, eight),
)
