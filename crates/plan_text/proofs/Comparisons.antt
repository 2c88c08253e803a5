-- Texts that are walked over to be compared.

use Rattle.std.proofs.Common.{◌≡◌, ℕ, ◌+◌, ◌<◌, Bool, List, [], ◌∷◌, ◌++◌, length, map, take, drop, Option, Some, refl, sym, ap, ◌∙◌, subst, arith, length-append, drop-cons, add-one, Bor}
use Rattle.std.specs.Prelude.{slice_get, ◌&&◌}
use Rattle.std.proofs.lemmas.Option.{slice_get_within, get_or_from_slice_get}
use Rattle.std.proofs.Math.Bool.{and_assoc, and-true}
use Rattle.std.specs.Cmp.Lexicographic.{pointwise}
use Rattle.std.specs.Str.{bytes_eq}
use Rattle.pddl_words.specs.Words.{folded}
use Rattle.strips_task.specs.declared.plans.Plan.{Plan}
use Rattle.strips_task.specs.declared.plans.Plan.TheVariants.{Steps, Unreadable}
use Rattle.strips_task.specs.declared.steps.StepText.{StepText}
use Rattle.strips_task.specs.Steps.{step_of, step_eq}
use Rattle.plan_text.specs.PlanReading.{plan_of}
use Rattle.plan_text.specs.declared.walk.TextStep.{TextStep}
use Rattle.plan_text.specs.declared.walk.TextStep.TheVariants as t
use Rattle.plan_text.specs.WalkFinds.{IsFound}
use Rattle.plan_text.specs.Walks.{Walk, HasPassed, GoesBehind}
use Rattle.plan_text.specs.Comparing.{PartAt, has_at}

-- a walk has gone on in its text
pub record IsWalked (start walk : Walk) : Type 0 where
  pub text : walk.text ≡ start.text
  pub passed : (steps : List StepText) → HasPassed start steps → (more : List StepText) × HasPassed walk (steps ++ more)

-- two lists that are as long, and one item more in each
pairs_more : (xs ys : List StepText) (x y : StepText) → length xs ≡ length ys → pointwise step_eq (xs ++ x ∷ []) (ys ++ y ∷ []) ≡ pointwise step_eq xs ys && step_eq x y
pairs_more [] [] x y e = and-true (step_eq x y)
pairs_more [] (b ∷ ys) x y e = absurd (omega (arith, e))
pairs_more (a ∷ xs) [] x y e = absurd (omega (arith, e))
pairs_more (a ∷ xs) (b ∷ ys) x y e =
    ap (λ t. step_eq a b && t) (pairs_more xs ys x y (omega (arith, e))) ∙ sym (and_assoc (step_eq a b) (pointwise step_eq xs ys) (step_eq x y))

-- the steps that two walks have passed are as many, and this is whether they are the same
pub record Compared (start other first second : Walk) (same : Bool) : Type 0 where
  pub first_text : first.text ≡ start.text
  pub second_text : second.text ≡ other.text
  pub steps : List StepText
  pub others : List StepText
  pub by_first : HasPassed first steps
  pub by_second : HasPassed second others
  pub as_many : length steps ≡ length others
  pub is : same ≡ pointwise step_eq steps others

-- steps by the test of their words
pub steps_by_words : (words others : List (List ℕ)) → 0 < length words → 0 < length others
    → pointwise bytes_eq (map folded words) (map folded others) ≡ step_eq (step_of (map folded words)) (step_of (map folded others))
unfolding step_of
steps_by_words [] others some other = absurd (omega arith)
steps_by_words (w ∷ words) [] some other = absurd (omega arith)
steps_by_words (w ∷ words) (v ∷ others) some other = refl

pub both_on : (start other first second new_first new_second : Walk) (same now : Bool) (s t : StepText) → Compared start other first second same
    → GoesBehind first new_first s → GoesBehind second new_second t → now ≡ step_eq s t → Compared start other new_first new_second (same && now)
both_on start other first second new_first new_second same now s t before goes follows test = record {
  first_text = goes.text ∙ before.first_text;
  second_text = follows.text ∙ before.second_text;
  steps = before.steps ++ s ∷ [];
  others = before.others ++ t ∷ [];
  by_first = goes.passed before.steps before.by_first;
  by_second = follows.passed before.others before.by_second;
  as_many = omega (arith, length-append before.steps (s ∷ []), length-append before.others (t ∷ []), before.as_many);
  is = (λ j. before.is j && test j) ∙ sym (pairs_more before.steps before.others s t before.as_many);
}

-- how many steps a walk has passed that had passed `count`, and how many are left if the plan has steps, by what was found
abbrev pub Counts : TextStep → ℕ → ℕ → ℕ → Type 0
Counts (t.Step words key) count passed left = passed ≡ count + 1
Counts t.End count passed left = (passed ≡ count) × (left ≡ 0)
Counts (t.Unreadable line) count passed left = ⊥

-- what is known of a walk that has found this behind `count` steps
record Moved (found : TextStep) (count : ℕ) (walk : Walk) : Type 0 where
  pub steps : List StepText
  pub passed : HasPassed walk steps
  pub counts : (left : List StepText) → plan_of walk.text ≡ Steps (steps ++ left) → Counts found count (length steps) (length left)

none_left : (steps left : List StepText) → ◌≡◌ {A = Plan} (Steps steps) (Steps (steps ++ left)) → length left ≡ 0
none_left steps left is =
    let e : steps ≡ steps ++ left = cc in
    omega (arith, ap length e, length-append steps left)

moved : (found : TextStep) (old new : Walk) (steps : List StepText) → IsFound found old new → HasPassed old steps → Moved found (length steps) new
moved (t.Step words key) old new steps is h = record {
  steps = steps ++ step_of (map folded words) ∷ [];
  passed = is.behind.passed steps h;
  counts = λ left e. length-append steps (step_of (map folded words) ∷ []);
}
moved t.End old new steps is h = record {
  steps = steps;
  passed = subst (λ (w : Walk). HasPassed w steps) (sym is.0) h;
  counts = λ left e. (refl, none_left steps left (sym (is.1 steps h) ∙ ap (λ (w : Walk). plan_of w.text) (sym is.0) ∙ e));
}
moved (t.Unreadable line) old new steps is h = record {
  steps = steps;
  passed = subst (λ (w : Walk). HasPassed w steps) (sym is.0) h;
  counts = λ left e. let e : ◌≡◌ {A = Plan} (Unreadable line) (Steps (steps ++ left)) = sym (is.1 steps h) ∙ ap (λ (w : Walk). plan_of w.text) (sym is.0) ∙ e in cc;
}

-- neither a step of both nor the end of both was found
abbrev pub AreUnlike : TextStep → TextStep → Type 0
AreUnlike a b = ((w v : List (List ℕ)) (k l : Option (Bor (List ℕ))) → a ≡ t.Step w k → b ≡ t.Step v l → ⊥) × (a ≡ t.End → b ≡ t.End → ⊥)

clash : (a b : TextStep) (count x y p q : ℕ) → AreUnlike a b → Counts a count x p → Counts b count y q → x + p ≡ y + q → ⊥
clash (t.Step w k) (t.Step v l) count x y p q unlike one other e = unlike.0 w v k l refl refl
clash (t.Step w k) t.End count x y p q unlike one other e = omega (arith, one, other.0, other.1, e)
clash (t.Step w k) (t.Unreadable line) count x y p q unlike one other e = other
clash t.End (t.Step v l) count x y p q unlike one other e = omega (arith, one.0, one.1, other, e)
clash t.End t.End count x y p q unlike one other e = unlike.1 refl refl
clash t.End (t.Unreadable line) count x y p q unlike one other e = other
clash (t.Unreadable line) b count x y p q unlike one other e = one

pub are_apart : (start other first second new_first new_second : Walk) (same : Bool) (a b : TextStep) → Compared start other first second same
    → IsFound a first new_first → IsFound b second new_second → AreUnlike a b → PartAt new_first new_second
are_apart start other first second new_first new_second same a b before one two unlike =
    let m = moved a first new_first before.steps one before.by_first in
    let n = moved b second new_second before.others two before.by_second in
    record {
      steps = m.steps;
      others = n.steps;
      by_first = m.passed;
      by_second = n.passed;
      apart = λ more rest is that e.
          clash a b (length before.steps) (length m.steps) (length n.steps) (length more) (length rest) unlike (m.counts more is)
          (subst (λ k. Counts b k (length n.steps) (length rest)) (sym before.as_many) (n.counts rest that))
          (sym (length-append m.steps more) ∙ e ∙ length-append n.steps rest);
    }

-- the first steps of a plan beside those that a walk has passed, and one more
pub taken_pairs : (steps passed : List StepText) (step : StepText)
    → pointwise step_eq (take (length (passed ++ step ∷ [])) steps) (passed ++ step ∷ []) ≡ pointwise step_eq (take (length passed) steps) passed && has_at steps (length passed) step
taken_pairs [] [] step = refl
taken_pairs [] (y ∷ passed) step = refl
taken_pairs (x ∷ steps) [] step = and-true (step_eq x step)
taken_pairs (x ∷ steps) (y ∷ passed) step =
    ap (λ t. step_eq x y && t) (taken_pairs steps passed step)
    ∙ sym (and_assoc (step_eq x y) (pointwise step_eq (take (length passed) steps) passed) (has_at steps (length passed) step))

-- a walk has passed some steps, and this is whether they are the first of a plan
pub record IsPart (steps : List StepText) (start walk : Walk) (same : Bool) : Type 0 where
  pub text : walk.text ≡ start.text
  pub passed : List StepText
  pub by : HasPassed walk passed
  pub is : same ≡ pointwise step_eq (take (length passed) steps) passed

-- the arguments from an index on, by the first of them
pub args_go_on : (args : List (List ℕ)) (index : ℕ) (arg word : List ℕ) (words rest : List (List ℕ)) (t : Bool) → slice_get args index ≡ Some arg → words ≡ word ∷ rest → t ≡ bytes_eq arg (folded word) → pointwise bytes_eq (drop index args) (map folded words) ≡ (t && pointwise bytes_eq (drop (index + 1) args) (map folded rest))
args_go_on args index arg word words rest t at is test =
    let here = drop-cons args index arg (slice_get_within args index arg at)
    ∙ (λ k. get_or_from_slice_get args index arg arg at k ∷ drop (sym (add-one index) k) args) in
    (λ j. pointwise bytes_eq (here j) (map folded (is j)))
    ∙ ap (λ (b : Bool). b && pointwise bytes_eq (drop (index + 1) args) (map folded rest)) (sym test)

-- a step by its first word and the others
pub step_by_words : (step : StepText) (word : List ℕ) (words : List (List ℕ)) → step_eq step (step_of (map folded (word ∷ words))) ≡ (bytes_eq step.action (folded word) && pointwise bytes_eq step.args (map folded words))
unfolding step_of
step_by_words step word words = refl
