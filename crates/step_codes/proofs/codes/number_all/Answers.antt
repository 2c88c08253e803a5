use Rattle.std.proofs.Common.{◌≡◌, ℕ, List, Option, Some, IfSome, refl, sym, ap, ◌∙◌, subst, length, take, map}
use Rattle.std.proofs.lemmas.List.{take_all}
use Rattle.formulas.specs.declared.terms.Pattern.{Pattern}
use Rattle.formulas.specs.Within.{IsPatternWithin}
use Rattle.strips_judge.specs.Grounding.{ground}
use Rattle.strips_judge.specs.NumberedState.{AreNumbers}
use Rattle.strips_task.specs.AtomNumbers.{number_in}
use Rattle.strips_judge.proofs.AtomNumbers.{numbers_more}
use Rattle.strips_judge.proofs.Growth.{grows_same, grows_twice}
use Rattle.strips_judge.proofs.StepLaws.{mapped_more}
use Rattle.step_codes.proofs.codes.number_all.Goals as goal

pub loop-pattern-init : goal.loop-pattern-init
loop-pattern-init c = (sym (ap (λ (l : List ℕ). map Some l) c.clear.ensures.items), refl, grows_same c.args.state.now c.args.state.now refl refl)

pub short_number-requires : goal.short_number-requires
short_number-requires c =
    subst (IsPatternWithin (length c.args.objects.now) 0) (sym c.pattern-item.is) (c.requires c.loop-pattern.pattern-index c.pattern-item.result c.loop-pattern-test.true)

pub returns-clause-numbers : goal.returns-clause-numbers
returns-clause-numbers c = λ t.
    subst (λ (l : List Pattern). AreNumbers c.loop-pattern.state.atoms (map (ground c.args.objects.now) l) c.loop-pattern.numbers.items)
    (take_all c.loop-pattern.pattern-index c.args.patterns.now c.loop-pattern-test.false) c.loop-pattern.invariant.0

pub returns-in_err-push-in-Some-clause-grows : goal.returns-in_err-push-in-Some-clause-grows
returns-in_err-push-in-Some-clause-grows c = grows_twice c.args.state.now c.loop-pattern.state c.short_number.new.state c.loop-pattern.invariant.2 c.short_number.ensures.grows

pub returns-in_err-number-clause-grows : goal.returns-in_err-number-clause-grows
returns-in_err-number-clause-grows c = grows_twice c.args.state.now c.loop-pattern.state c.short_number.new.state c.loop-pattern.invariant.2 c.short_number.ensures.grows

pub returns-in-None-clause-grows : goal.returns-in-None-clause-grows
returns-in-None-clause-grows c = grows_twice c.args.state.now c.loop-pattern.state c.short_number.new.state c.loop-pattern.invariant.2 c.short_number.ensures.grows

pub loop-pattern-preserved : goal.loop-pattern-preserved
loop-pattern-preserved c =
    let atoms = c.short_number.new.state.atoms in
    let says : number_in atoms (ground c.args.objects.now c.pattern-item.result) ≡ Some c.in-Some.number =
    let P : Option ℕ → Type 0 = λ o. IfSome o (λ n. number_in atoms (ground c.args.objects.now c.pattern-item.result) ≡ Some n) in subst P c.in-Some.is c.in_ok-number.ensures.number in (
      numbers_more c.loop-pattern.state.atoms atoms c.short_number.ensures.grows.numbers
          (map (ground c.args.objects.now) (take c.loop-pattern.pattern-index c.args.patterns.now)) _ c.loop-pattern.numbers.items _
          (ground c.args.objects.now c.pattern-item.result) c.in-Some.number
          (mapped_more (ground c.args.objects.now) c.args.patterns.now c.loop-pattern.pattern-index c.pattern-item.result c.loop-pattern-test.true c.pattern-item.is)
          c.in_ok-push-in-Some.ensures.items c.loop-pattern.invariant.0 says,
      c.short_number.ensures.state ∙ c.loop-pattern.invariant.1,
      grows_twice c.args.state.now c.loop-pattern.state c.short_number.new.state c.loop-pattern.invariant.2 c.short_number.ensures.grows,
    )
