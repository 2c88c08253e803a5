-- A report that goes through the plans one by one is the one that goes through the planners.

use Rattle.std.proofs.Common.{◌≡◌, ◌≢◌, ℕ, ◌+◌, ◌<◌, zero, suc, Bool, true, false, cond, List, [], ◌∷◌, ◌++◌, Some, length, map, drop, get_or, slice_get, nat_eq, true≢false, refl, ap, sym, ◌∙◌, subst, arith, append-nil, append_assoc}
use Rattle.std.specs.Prelude.{◌==◌}
use Rattle.std.specs.List.{concat, flat_map, slice_split}
use Rattle.std.proofs.lemmas.Bool.{eq-eqb, ne_eqb}
use Rattle.std.proofs.lemmas.List.{length-map}
use Rattle.std.proofs.lemmas.List.Splits.{length-slice_split}
use Rattle.strips_task.specs.declared.costs.CostedTask.{CostedTask}
use Rattle.strips_task.specs.declared.plans.Plan.{Plan}
use Rattle.judge_bench.specs.Submissions.{SubmissionParts}
use Rattle.plan_text.specs.Bundle.{is_separator, lines, parts}
use Rattle.plan_text.specs.PlanReading.{plan_of}
use Rattle.report_text.specs.declared.format.Format.{Format}
use Rattle.report_text.specs.Format.{head_in, plan_in, plan_texts, planner_text, report, summary_in}
use Rattle.report_text.specs.Report.{Judged, least_cost, steps_if_valid}
use Rattle.judge_engine.specs.Answer.{judged, judged_plan, planner_of}
use Rattle.judge_engine.specs.Bundle.{BundleValue}
use Rattle.strips_judge.proofs.Searches.{left}
use Rattle.judge_engine.specs.Plans.{plan_of_cut, plan_of_part, plans_of_cuts, plans_of_file, plans_of_files}
use Rattle.judge_engine.specs.declared.plans.Cut.{Cut}
use Rattle.judge_engine.specs.declared.planner.ReportPosition.{ReportPosition}
use Rattle.judge_engine.specs.declared.planner.Tally.{Tally}
use Rattle.judge_engine.specs.Tally.{both, tally_of, tally_with}
use Rattle.judge_engine.specs.ReportPosition.{IsPosition, start_of, name_of, next_text, position_with, sum_text, rest_text, turn_text, turned}
use Rattle.judge_engine.proofs.Tallies.{all_counted, counted, none_counted, one_at_most}

-- the name of a file
pub name_is : (bundles : List BundleValue) (i : ℕ) (bundle : BundleValue) → i < length bundles → bundle ≡ get_or bundles i bundle → name_of bundles i ≡ bundle.name
name_is [] i bundle lt is = absurd (omega arith)
name_is (b ∷ bundles) zero bundle lt is = ap (λ (b : BundleValue). b.name) (sym is)
name_is (b ∷ bundles) (suc i) bundle lt is = name_is bundles i bundle (omega (arith, lt)) is

name_at : (bundles : List BundleValue) (i : ℕ) (bundle : BundleValue) → slice_get bundles i ≡ Some bundle → name_of bundles i ≡ bundle.name
name_at [] i bundle e = cc
name_at (b ∷ bundles) zero bundle e = let same : b ≡ bundle = cc in ap (λ (b : BundleValue). b.name) same
name_at (b ∷ bundles) (suc i) bundle e = name_at bundles i bundle e

-- there is a file if the test for none fails
pub some_file : (bundles : List BundleValue) → (length bundles == 0) ≡ false → 0 < length bundles
some_file [] none = absurd (true≢false none)
some_file (bundle ∷ bundles) none = omega arith

-- a file has a part
some_part : (bytes : List ℕ) → 0 < length (parts bytes)
unfolding parts
some_part bytes = omega (arith, length-slice_split is_separator (lines bytes), length-map (slice_split is_separator (lines bytes)) concat)

-- the plan of a part is judged as the part is
judged_part : (task : CostedTask) (text : List ℕ) → judged_plan task (plan_of text) ≡ judged task text
unfolding judged
judged_part task text = refl

-- turning to the same planner changes nothing
pub turn_same : (format : Format) (task : CostedTask) (bundles : List BundleValue) (position : ReportPosition) (planner : ℕ) → planner ≡ position.planner
    → (turn_text format task bundles position planner ≡ []) × (turned position planner ≡ position)
turn_same format task bundles position planner same =
    let test : nat_eq planner position.planner ≡ true = eq-eqb planner position.planner same in
    (ap (λ b. cond b [] (sum_text format task bundles position)) test, ap (λ b. cond b position (start_of planner)) test)

-- turning to another one adds the sum
pub turn_other : (format : Format) (task : CostedTask) (bundles : List BundleValue) (position : ReportPosition) (planner : ℕ) → planner ≢ position.planner
    → (turn_text format task bundles position planner ≡ sum_text format task bundles position) × (turned position planner ≡ start_of planner)
turn_other format task bundles position planner apart =
    let test : nat_eq planner position.planner ≡ false = ne_eqb planner position.planner apart in
    (ap (λ b. cond b [] (sum_text format task bundles position)) test, ap (λ b. cond b position (start_of planner)) test)

-- wherever a report turns to, it stands well
turned_well : (planners most planner : ℕ) (position : ReportPosition) → planner < planners → IsPosition planners most position → IsPosition planners most (turned position planner)
turned_well planners most planner position within well = by (nat_eq planner position.planner)
  where
    by : (b : Bool) → IsPosition planners most (cond b position (start_of planner))
    by true = well
    by false = record { known = within; few = omega arith; some = omega arith }

pub turned_stands_well : (planners most planner : ℕ) (position next : ReportPosition) → planner < planners → IsPosition planners most position → next ≡ turned position planner
    → IsPosition planners most next
turned_stands_well planners most planner position next within well is = subst (IsPosition planners most) (sym is) (turned_well planners most planner position within well)

-- and with one plan more
position_more : (planners most planner : ℕ) (position : ReportPosition) (plan : Judged) → planner < planners → IsPosition planners most position
    → IsPosition planners (most + 1) (position_with position planner plan)
position_more planners most planner position plan within well =
    let before_it = turned_well planners most planner position within well in
    let one = one_at_most (steps_if_valid plan.verdict) in
    record { known = within; few = omega (arith, before_it.few); some = omega (arith, before_it.some, one) }

module _ (format : Format) (task : CostedTask) (bundles : List BundleValue) where
  -- a plan of the same planner
  same_planner : (planner : ℕ) (tally : Tally) (plan : Plan) (rest : List SubmissionParts)
      → rest_text format task bundles (record { planner = planner; tally = tally }) (record { planner = planner; plan = plan } ∷ rest)
      ≡ plan_in format task.task (name_of bundles planner) (tally.plans + 1) (judged_plan task plan)
      ++ rest_text format task bundles (record { planner = planner; tally = tally_with tally (judged_plan task plan) }) rest
  unfolding rest_text
  same_planner planner tally plan rest =
      let position : ReportPosition = record { planner = planner; tally = tally } in
      ap (λ b. (cond b [] (sum_text format task bundles position)
      ++ plan_in format task.task (name_of bundles planner) ((cond b position (start_of planner)).tally.plans + 1) (judged_plan task plan))
      ++ rest_text format task bundles (record { planner = planner; tally = tally_with (cond b position (start_of planner)).tally (judged_plan task plan) }) rest) (eq-eqb planner planner refl)

  -- a plan of another comes behind the sum
  other_planner : (position : ReportPosition) (planner : ℕ) (plan : Plan) (rest : List SubmissionParts) → planner ≢ position.planner
      → rest_text format task bundles position (record { planner = planner; plan = plan } ∷ rest)
      ≡ sum_text format task bundles position ++ rest_text format task bundles (start_of planner) (record { planner = planner; plan = plan } ∷ rest)
  unfolding rest_text
  other_planner position planner plan rest apart =
      let first = plan_in format task.task (name_of bundles planner) 1 (judged_plan task plan) in
      let others = rest_text format task bundles (record { planner = planner; tally = tally_with (start_of planner).tally (judged_plan task plan) }) rest in
      ap (λ b. (cond b [] (sum_text format task bundles position)
      ++ plan_in format task.task (name_of bundles planner) ((cond b position (start_of planner)).tally.plans + 1) (judged_plan task plan))
      ++ rest_text format task bundles (record { planner = planner; tally = tally_with (cond b position (start_of planner)).tally (judged_plan task plan) }) rest) (ne_eqb planner position.planner apart)
      ∙ append_assoc (sum_text format task bundles position) first others
      ∙ ap (λ l. sum_text format task bundles position ++ l) (sym (same_planner planner (start_of planner).tally plan rest))

  -- the plans of one file
  plans_of_one : (planner : ℕ) (tally : Tally) (texts : List (List ℕ)) (more : List SubmissionParts)
      → rest_text format task bundles (record { planner = planner; tally = tally }) (map (plan_of_part planner) texts ++ more)
      ≡ plan_texts format task.task (name_of bundles planner) (tally.plans + 1) (map (judged task) texts)
      ++ rest_text format task bundles (record { planner = planner; tally = both tally (tally_of (map (judged task) texts)) }) more
  plans_of_one planner tally [] more = ap (λ t. rest_text format task bundles (record { planner = planner; tally = t }) more) (sym (all_counted tally))
  plans_of_one planner tally (text ∷ texts) more =
      let name = name_of bundles planner in
      let plan = judged task text in
      let plans = map (judged task) texts in
      let behind = rest_text format task bundles (record { planner = planner; tally = both tally (tally_of (plan ∷ plans)) }) more in
      same_planner planner tally (plan_of text) (map (plan_of_part planner) texts ++ more)
      ∙ ap (λ p. plan_in format task.task name (tally.plans + 1) p
      ++ rest_text format task bundles (record { planner = planner; tally = tally_with tally p }) (map (plan_of_part planner) texts ++ more)) (judged_part task text)
      ∙ ap (λ l. plan_in format task.task name (tally.plans + 1) plan ++ l)
      (plans_of_one planner (tally_with tally plan) texts more
      ∙ ap (λ t. plan_texts format task.task name (tally.plans + 1 + 1) plans ++ rest_text format task bundles (record { planner = planner; tally = t }) more) (counted tally plan plans))
      ∙ sym (append_assoc (plan_in format task.task name (tally.plans + 1) plan) (plan_texts format task.task name (tally.plans + 1 + 1) plans) behind)

  -- a whole file
  own_file : (planner : ℕ) (bundle : BundleValue) (more : List SubmissionParts) → name_of bundles planner ≡ bundle.name
      → rest_text format task bundles (start_of planner) (plans_of_file planner bundle ++ more)
      ≡ plan_texts format task.task bundle.name 1 (map (judged task) (parts bundle.bytes))
      ++ rest_text format task bundles (record { planner = planner; tally = tally_of (map (judged task) (parts bundle.bytes)) }) more
  unfolding plans_of_file
  own_file planner bundle more named =
      let plans = map (judged task) (parts bundle.bytes) in
      plans_of_one planner (start_of planner).tally (parts bundle.bytes) more
      ∙ (λ j. plan_texts format task.task (named j) 1 plans
      ++ rest_text format task bundles (record { planner = planner; tally = none_counted (start_of planner).tally refl refl refl refl plans j }) more)

  -- another file comes behind the sum of the one before
  behind_sum : (position : ReportPosition) (planner : ℕ) (texts : List (List ℕ)) (more : List SubmissionParts) → 0 < length texts → planner ≢ position.planner
      → rest_text format task bundles position (map (plan_of_part planner) texts ++ more)
      ≡ sum_text format task bundles position ++ rest_text format task bundles (start_of planner) (map (plan_of_part planner) texts ++ more)
  behind_sum position planner [] more some apart = absurd (omega (arith, some))
  behind_sum position planner (text ∷ texts) more some apart = other_planner position planner (plan_of text) (map (plan_of_part planner) texts ++ more) apart

  -- all files
  all_files : (planner : ℕ) (bundle : BundleValue) (files : List BundleValue)
      → ((k : ℕ) (file : BundleValue) → slice_get (bundle ∷ files) k ≡ Some file → name_of bundles (planner + k) ≡ file.name)
      → rest_text format task bundles (start_of planner) (plans_of_files planner (bundle ∷ files)) ≡ flat_map (planner_text format task) (map (planner_of task) (bundle ∷ files))
  unfolding rest_text planner_of plans_of_file
  all_files planner bundle [] named =
      let plans = map (judged task) (parts bundle.bytes) in
      let tally = tally_of plans in
      let first : planner + 0 ≡ planner = omega arith in
      let name : name_of bundles planner ≡ bundle.name = ap (name_of bundles) (sym first) ∙ named 0 bundle refl in
      own_file planner bundle [] name
      ∙ ap (λ n. plan_texts format task.task bundle.name 1 plans ++ summary_in format n tally.plans tally.valid tally.best (least_cost task.costs tally.cost)) name
      ∙ sym (append-nil (planner_text format task (planner_of task bundle)))
  all_files planner bundle (next ∷ files) named =
      let plans = map (judged task) (parts bundle.bytes) in
      let tally = tally_of plans in
      let position : ReportPosition = record { planner = planner; tally = tally } in
      let texts = plan_texts format task.task bundle.name 1 plans in
      let sum = summary_in format bundle.name tally.plans tally.valid tally.best (least_cost task.costs tally.cost) in
      let rest = rest_text format task bundles (start_of (suc planner)) (plans_of_files (suc planner) (next ∷ files)) in
      let first : planner + 0 ≡ planner = omega arith in
      let name : name_of bundles planner ≡ bundle.name = ap (name_of bundles) (sym first) ∙ named 0 bundle refl in
      let apart : suc planner ≢ planner = λ e. omega (arith, e) in
      own_file planner bundle (plans_of_files (suc planner) (next ∷ files)) name
      ∙ ap (λ l. texts ++ l)
      (behind_sum position (suc planner) (parts next.bytes) (plans_of_files (suc (suc planner)) files) (some_part next.bytes) apart
      ∙ ap (λ n. summary_in format n tally.plans tally.valid tally.best (least_cost task.costs tally.cost) ++ rest) name)
      ∙ sym (append_assoc texts sum rest)
      ∙ ap (λ l. planner_text format task (planner_of task bundle) ++ l)
      (all_files (suc planner) next files
      (λ k file at. let same : suc planner + k ≡ planner + suc k = omega arith in ap (name_of bundles) same ∙ named (suc k) file at))

-- so that is the whole report
pub whole_report : (format : Format) (task : CostedTask) (bundles : List BundleValue) → 0 < length bundles
    → head_in format task.task ++ rest_text format task bundles (start_of 0) (plans_of_files 0 bundles) ≡ report format task (map (planner_of task) bundles)
whole_report format task [] some = absurd (omega (arith, some))
whole_report format task (bundle ∷ files) some =
    ap (λ l. head_in format task.task ++ l)
    (all_files format task (bundle ∷ files) 0 bundle files (λ k file at. let same : 0 + k ≡ k = omega arith in ap (name_of (bundle ∷ files)) same ∙ name_at (bundle ∷ files) k file at))

-- a plan that was added is no longer to come
one_more : (format : Format) (task : CostedTask) (bundles : List BundleValue) (position later : ReportPosition) (submitted : SubmissionParts) (plan : Judged) (text longer : List ℕ) (rest : List SubmissionParts)
    → plan ≡ judged_plan task submitted.plan → longer ≡ text ++ next_text format task bundles position submitted.planner plan → later ≡ position_with position submitted.planner plan
    → longer ++ rest_text format task bundles later rest ≡ text ++ rest_text format task bundles position (submitted ∷ rest)
unfolding rest_text
one_more format task bundles position later submitted plan text longer rest same added stands =
    (λ j. added j ++ rest_text format task bundles (stands j) rest)
    ∙ append_assoc text (next_text format task bundles position submitted.planner plan) (rest_text format task bundles (position_with position submitted.planner plan) rest)
    ∙ ap (λ p. text ++ (next_text format task bundles position submitted.planner p ++ rest_text format task bundles (position_with position submitted.planner p) rest)) same

-- nor is the plan of a range
pub one_cut_more : (format : Format) (task : CostedTask) (bundles : List BundleValue) (cuts : List Cut) (index : ℕ) (cut : Cut) (position later : ReportPosition) (plan : Judged) (text longer : List ℕ)
    → index < length cuts → cut ≡ get_or cuts index cut → plan ≡ judged_plan task (plan_of_cut bundles cut).plan
    → longer ≡ text ++ next_text format task bundles position cut.planner plan → later ≡ position_with position cut.planner plan
    → longer ++ rest_text format task bundles later (plans_of_cuts bundles (drop (index + 1) cuts)) ≡ text ++ rest_text format task bundles position (plans_of_cuts bundles (drop index cuts))
one_cut_more format task bundles cuts index cut position later plan text longer within is same added stands =
    one_more format task bundles position later (plan_of_cut bundles cut) plan text longer (plans_of_cuts bundles (drop (index + 1) cuts)) same added stands
    ∙ ap (λ l. text ++ rest_text format task bundles position (plans_of_cuts bundles l)) (sym (left cuts index cut within is))

-- before the first plan it stands well
pub start_well : (planners : ℕ) (position : ReportPosition) → 0 < planners → position ≡ start_of 0 → IsPosition planners 0 position
start_well planners position some is = subst (IsPosition planners 0) (sym is) (record { known = some; few = omega arith; some = omega arith })

-- and so it does with one plan more
pub later_well : (planners count planner : ℕ) (position later : ReportPosition) (plan : Judged) → planner < planners → IsPosition planners count position
    → later ≡ position_with position planner plan → IsPosition planners (count + 1) later
later_well planners count planner position later plan within well stands =
    subst (IsPosition planners (count + 1)) (sym stands) (position_more planners count planner position plan within well)

-- the last sum
pub last_sum : (format : Format) (task : CostedTask) (bundles : List BundleValue) (position : ReportPosition) → sum_text format task bundles position ≡ rest_text format task bundles position []
unfolding rest_text
last_sum format task bundles position = refl
