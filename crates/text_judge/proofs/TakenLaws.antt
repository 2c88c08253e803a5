-- Steps that were taken: one step more, a step that is not applicable, and what is found of all.

use Rattle.std.proofs.Common.{◌≡◌, ℕ, ◌+◌, ◌*◌, ◌^◌, ◌<◌, ◌≤◌, Bool, true, false, List, [], ◌∷◌, ◌++◌, Option, Some, None, All, IsTrue, IfSome, length, get_or, slice_get, ⊎_elim, subst, refl, ap, sym, ◌∙◌, arith, append-nil, length-append, unwrap_or}
use Rattle.std.specs.List.{flat_map}
use Rattle.std.proofs.lemmas.List.Concat.{flat_map-append}
use Rattle.std.proofs.lemmas.List.Elements.{All-push}
use Rattle.std.proofs.lemmas.Option.{get_or_from_slice_get, slice_get_cases}
use Rattle.formulas.specs.declared.atoms.Atom.{Atom}
use Rattle.strips_task.specs.declared.plans.Plan.TheVariants.{Steps}
use Rattle.strips_task.specs.declared.steps.StepText.{StepText}
use Rattle.strips_task.specs.declared.tasks.TaskParts.{TaskParts}
use Rattle.strips_task.specs.Spelled.{IsSpelled, step_spelled}
use Rattle.strips_judge.specs.declared.verdict.Verdict.{Verdict}
use Rattle.strips_judge.specs.declared.verdict.Verdict.TheVariants.{Valid, Fails, Goal, Unreadable}
use Rattle.strips_judge.specs.declared.verdict.Why.{Why}
use Rattle.step_codes.specs.Codes.{Code, IsCode}
use Rattle.strips_judge.specs.NumberedState.{Numbered, Grows, state_of}
use Rattle.strips_judge.specs.State.{State, is_in}
use Rattle.strips_judge.specs.Statics.{KeepsStatics}
use Rattle.strips_judge.specs.Step.{hindrance, after, missing}
use Rattle.strips_judge.specs.Validity.{IsApplicable, LeadTo}
use Rattle.strips_judge.specs.Verdict.{goal_verdict, step_verdict, verdict_from, verdict}
use Rattle.strips_judge.proofs.StaticLaws.{run_keeps}
use Rattle.strips_judge.proofs.Applicable.{applicable_from_hindrance, hindrance_from_applicable}
use Rattle.step_codes.proofs.CodeLaws.{code_kept}
use Rattle.strips_judge.proofs.Growth.{grows_same}
use Rattle.strips_judge.proofs.Runs.{lead_none, lead_none_same, lead_more, lead_first}
use Rattle.plan_cost.specs.declared.costs.Cost.{Cost}
use Rattle.plan_cost.specs.declared.costs.Cost.TheVariants.{NotCounted}
use Rattle.strips_task.specs.declared.costs.CostedTask.{CostedTask}
use Rattle.strips_task.specs.declared.costs.Costs.{Costs}
use Rattle.plan_cost.specs.declared.assessments.Assessment.{Assessment}
use Rattle.plan_cost.specs.Assessments.{assessment, cost_beside}
use Rattle.plan_cost.specs.Costs.{added, sum_of, step_amounts, steps_cost, cost_answer}
use Rattle.strips_task.specs.Values.{initial_cost}
use Rattle.plan_cost.proofs.Sums.{sum_of-append}
use Rattle.text_judge.specs.Judging.{IsCostSoFar, HasTaken, cost_by}
use Rattle.text_judge.specs.Known.{Known}
use Rattle.text_judge.specs.Learned.{IsAmount, IsLearned, Takes, IsJudge}

-- what is said of a value, where there is one
pub with_value : {T : Type 0} (P : T → Type 0) (o : Option T) (value : T) → o ≡ Some value → IfSome o P → P value
with_value P o value is h = subst (λ o. IfSome o P) is h

-- what the table finds was learned
pub learned_at : (task : CostedTask) (atoms : List Atom) (memo : List Known) (n : ℕ) (known : Known) → All (IsLearned task atoms) memo → slice_get memo n ≡ Some known
    → IsLearned task atoms known
learned_at task atoms memo n known all at =
    ⊎_elim
    (λ h. let (other, lt, is, read) = h in subst (λ (k : Known). IsLearned task atoms k) (get_or_from_slice_get memo n known known at) (all n known lt))
    (λ h. let apart : Some known ≡ None = sym at ∙ h.1 in cc)
    ((slice_get_cases memo n).1)

-- a step with a code and an amount is learned under its key
pub learned_as : (task : CostedTask) (atoms : List Atom) (key : List ℕ) (step : StepText) (code : Code) (o : Option ℕ) (amount short : ℕ) → IsSpelled key → step_spelled key ≡ step
    → IsCode task.task atoms step code → IsAmount task.task task.costs step o → o ≡ Some amount → amount ≡ short
    → IsLearned task atoms (record { key = key; code = code; amount = short })
learned_as task atoms key step code o amount short spelled same is adds some fits =
    record {
      spelled = spelled;
      code = subst (λ (s : StepText). IsCode task.task atoms s code) (sym same) is;
      amount = subst (λ (s : StepText). IsAmount task.task task.costs s (Some short)) (sym same)
          (subst (λ (a : Option ℕ). IsAmount task.task task.costs step a) (some ∙ ap Some fits) adds);
    }

-- what was learned stays so where the numbering grows
pub learned_grown : (task : CostedTask) (old new : Numbered) (memo : List Known) → Grows old new → All (IsLearned task old.atoms) memo → All (IsLearned task new.atoms) memo
learned_grown task old new memo grows all = λ k d lt.
    let known = get_or memo k d in
    let one = all k d lt in
    record {
      spelled = one.spelled;
      code = code_kept task.task old.atoms new.atoms grows.numbers (step_spelled known.key) known.code one.code;
      amount = one.amount;
    }

-- one step more may be learned
pub learned_more : (task : CostedTask) (atoms : List Atom) (memo new : List Known) (known : Known) (b : Bool) → (IsTrue b → new ≡ memo ++ known ∷ []) → (b ≡ false → new ≡ memo)
    → All (IsLearned task atoms) memo → IsLearned task atoms known → All (IsLearned task atoms) new
learned_more task atoms memo new known true more stays all one = subst (λ (l : List Known). All (IsLearned task atoms) l) (sym (more refl)) (All-push (IsLearned task atoms) memo known all one)
learned_more task atoms memo new known false more stays all one = subst (λ (l : List Known). All (IsLearned task atoms) l) (sym (stays refl)) all

module _ (parts : TaskParts) where
  -- one step more at the end of a run
  lead_on : (start middle end : State) (steps : List StepText) (step : StepText) → LeadTo parts start steps middle → IsApplicable parts middle step
      → end ≡ after parts middle step → LeadTo parts start (steps ++ step ∷ []) end
  lead_on start middle end [] step run can is =
      let same : start ≡ middle = lead_none_same parts start middle run in
      let next : after parts start step ≡ end = ap (λ s. after parts s step) same ∙ sym is in
      lead_more parts start end step [] (subst (λ (s : State). IsApplicable parts s step) (sym same) can)
      (subst (λ (s : State). LeadTo parts (after parts start step) [] s) next (lead_none parts (after parts start step)))
  lead_on start middle end (first ∷ steps) step run can is =
      let split = lead_first parts start middle first steps run in
      lead_more parts start end first (steps ++ step ∷ []) split.0 (lead_on (after parts start first) middle end steps step split.1 can is)

  -- the verdict of steps that have a run is that of the steps behind them
  verdict_behind : (start end : State) (steps rest : List StepText) (taken : ℕ) → LeadTo parts start steps end
      → verdict_from parts taken start (steps ++ rest) ≡ verdict_from parts (taken + length steps) end rest
  verdict_behind start end [] rest taken run =
      let none : taken ≡ taken + length {A = StepText} [] = omega arith in
      ap (λ s. verdict_from parts taken s rest) (lead_none_same parts start end run) ∙ ap (λ n. verdict_from parts n end rest) none
  verdict_behind start end (step ∷ steps) rest taken run =
      let split = lead_first parts start end step steps run in
      let one : taken + 1 + length steps ≡ taken + length (step ∷ steps) = omega arith in
      ap (λ o. step_verdict (taken + 1) o (verdict_from parts (taken + 1) (after parts start step) (steps ++ rest))) (hindrance_from_applicable parts start step split.0)
      ∙ verdict_behind (after parts start step) end steps rest (taken + 1) split.1
      ∙ ap (λ n. verdict_from parts n end rest) one

  -- what one step more costs
  costs_more : (costs : Costs) (steps : List StepText) (step : StepText)
      → steps_cost parts costs (steps ++ step ∷ []) ≡ added (steps_cost parts costs steps) (sum_of (step_amounts parts costs step))
  costs_more costs steps step =
      let amounts = flat_map (step_amounts parts costs) in
      ap (λ l. sum_of (Some (initial_cost costs) ∷ l)) (flat_map-append (step_amounts parts costs) steps (step ∷ []))
      ∙ sum_of-append (Some (initial_cost costs) ∷ amounts steps) (amounts (step ∷ []))
      ∙ ap (λ l. added (steps_cost parts costs steps) (sum_of l)) (append-nil (step_amounts parts costs step))

  cost_more : (o : Option Costs) (steps : List StepText) (step : StepText) (cost amount : Option ℕ) → IsCostSoFar parts o steps cost → IsAmount parts o step amount
      → IsCostSoFar parts o (steps ++ step ∷ []) (added cost amount)
  cost_more (Some costs) steps step cost amount so_far one =
      (λ j. added (so_far j) (one j)) ∙ sym (costs_more costs steps step)
  cost_more None steps step cost amount so_far one = tt

  -- the cost beside a verdict
  cost_is : (o : Option Costs) (steps : List StepText) (answer : Verdict) (cost : Option ℕ) → IsCostSoFar parts o steps cost
      → cost_by o answer cost ≡ cost_beside parts o (Steps steps) answer
  cost_is (Some costs) steps (Valid n) cost so_far = ap cost_answer so_far
  cost_is (Some costs) steps (Fails n why) cost so_far = refl
  cost_is (Some costs) steps (Goal conds) cost so_far = refl
  cost_is (Some costs) steps (Unreadable line) cost so_far = refl
  cost_is None steps answer cost so_far = refl

  cost_of_failure : (o : Option Costs) (steps : List StepText) (n : ℕ) (why : Why) → cost_beside parts o (Steps steps) (Fails n why) ≡ NotCounted
  cost_of_failure (Some costs) steps n why = refl
  cost_of_failure None steps n why = refl

module _ (task : CostedTask) (state : Numbered) where
  -- no step was taken
  pub has_begun : (cost : Option ℕ) → state_of state ≡ is_in task.task.init → IsCostSoFar task.task task.costs [] cost
      → HasTaken (record { task = task; state = state; cost = cost; count = 0 }) []
  has_begun cost starts costs =
      record {
        run = subst (λ (s : State). LeadTo task.task (is_in task.task.init) [] s) (sym starts) (lead_none task.task (is_in task.task.init));
        count = refl;
        cost = costs;
      }

  module _ (cost : Option ℕ) (count : ℕ) where
    -- one step more
    pub has_taken_more : (new : Numbered) (more amount : Option ℕ) (step : StepText) → (KeepsStatics task.task (state_of state) → Takes task (state_of state) (state_of new) step amount) → more ≡ added cost amount
        → (steps : List StepText) → HasTaken (record { task = task; state = state; cost = cost; count = count }) steps
        → HasTaken (record { task = task; state = new; cost = more; count = count + 1 }) (steps ++ step ∷ [])
    has_taken_more new more amount step so is steps h =
        let takes = so (run_keeps task.task steps (state_of state) h.run) in
        let one : length (steps ++ step ∷ []) ≡ length steps + 1 = length-append steps (step ∷ []) in
        record {
          run = lead_on task.task (is_in task.task.init) (state_of state) (state_of new) steps step h.run
              (applicable_from_hindrance task.task (state_of state) step takes.not_hindered) takes.leads;
          count = ap (λ n. n + 1) h.count ∙ sym one;
          cost = subst (λ (o : Option ℕ). IsCostSoFar task.task task.costs (steps ++ step ∷ []) o) (sym is) (cost_more task.task task.costs steps step cost amount h.cost takes.adds);
        }

    -- a step that is hindered
    pub fails_here : (o : Option Why) (step : StepText) → o ≡ hindrance task.task (state_of state) step
        → IfSome o (λ why. (steps rest : List StepText) → HasTaken (record { task = task; state = state; cost = cost; count = count }) steps
        → assessment task (Steps (steps ++ step ∷ rest)) ≡ record { verdict = Fails (length steps + 1) why; cost = NotCounted })
    fails_here None step is = tt
    fails_here (Some why) step is = λ steps rest h.
        let number : 0 + length steps + 1 ≡ length steps + 1 = omega arith in
        let answer : verdict task.task (Steps (steps ++ step ∷ rest)) ≡ Fails (length steps + 1) why =
        verdict_behind task.task (is_in task.task.init) (state_of state) steps (step ∷ rest) 0 h.run
        ∙ ap (λ o. step_verdict (0 + length steps + 1) o (verdict_from task.task (0 + length steps + 1) (after task.task (state_of state) step) rest)) (sym is)
        ∙ ap (λ n. Fails n why) number in
        let none = ap (cost_beside task.task task.costs (Steps (steps ++ step ∷ rest))) answer ∙ cost_of_failure task.task task.costs (steps ++ step ∷ rest) (length steps + 1) why in
        λ j. record { verdict = answer j; cost = none j }

    -- what is found at the end
    pub found_at_end : (answer : Verdict) (beside : Cost) → answer ≡ goal_verdict count (missing task.task (state_of state) task.task.goal) → beside ≡ cost_by task.costs answer cost
        → (steps : List StepText) → HasTaken (record { task = task; state = state; cost = cost; count = count }) steps
        → ◌≡◌ {A = Assessment} (record { verdict = answer; cost = beside }) (assessment task (Steps steps))
    found_at_end answer beside is costs steps h =
        let number : count ≡ 0 + length steps = omega (arith, h.count) in
        let same : answer ≡ verdict task.task (Steps steps) =
        is ∙ ap (λ n. goal_verdict n (missing task.task (state_of state) task.task.goal)) number
        ∙ sym (ap (verdict_from task.task 0 (is_in task.task.init)) (sym (append-nil steps))
        ∙ verdict_behind task.task (is_in task.task.init) (state_of state) steps [] 0 h.run) in
        let cost_same = costs ∙ cost_is task.task task.costs steps answer cost h.cost ∙ ap (cost_beside task.task task.costs (Steps steps)) same in
        λ j. record { verdict = same j; cost = cost_same j }

    module _ (memo : List Known) (is : IsJudge task state memo cost count) where
      -- a judge with another state and other known steps
      pub judge_with : (new : Numbered) (known : List Known) → new.initial ≡ state.initial → All (IsLearned task new.atoms) known → IsJudge task new known cost count
      judge_with new known initial learned =
          record { initial = initial ∙ is.initial; learned = learned; count_within = is.count_within; cost_within = is.cost_within }

      -- one whose numbering has grown
      pub judge_grown : (new : Numbered) → Grows state new → IsJudge task new memo cost count
      judge_grown new grows = judge_with new memo grows.initial (learned_grown task state new memo grows is.learned)

      -- one that has the same numbering
      pub judge_still : (new : Numbered) → new.initial ≡ state.initial → new.atoms ≡ state.atoms → IsJudge task new memo cost count
      judge_still new initial atoms = judge_grown new (grows_same state new initial atoms)

      -- one that has taken a step more
      pub judge_counted : (more amount : Option ℕ) → count < 1000000 → unwrap_or more 0 ≤ unwrap_or cost 0 + unwrap_or amount 0 → unwrap_or amount 0 ≤ 32 * 2 ^ 64
          → IsJudge task state memo more (count + 1)
      judge_counted more amount lt sum small =
          record {
            initial = is.initial;
            learned = is.learned;
            count_within = omega (arith, lt);
            cost_within = omega (arith, is.cost_within, sum, small);
          }
