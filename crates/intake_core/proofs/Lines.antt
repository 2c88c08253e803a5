-- The line of a planner's jobs: what it becomes when a job is accepted, and when a finding is emitted.

use Rattle.std.proofs.Common.{◌≡◌, ◌≢◌, ℕ, suc, ◌+◌, ◌-◌, ◌<◌, ◌≤◌, ⊎_elim, Bool, true, false, List, [], ◌∷◌, ◌++◌, length, get_or, filter, map, Option, Some, None, cond, ap, sym, ◌∙◌, subst, refl, arith, add-one, append-nil, get_or-set_same, get_or-set_other}
use Rattle.std.specs.Prelude.{slice_get, option_map}
use Rattle.std.proofs.lemmas.Bool.{cases_lt, cases_eq, eqb-true, eq-eqb}
use Rattle.std.proofs.lemmas.List.{get_or_append_left, get_or_push, map-append}
use Rattle.std.proofs.lemmas.List.Elements.{filter-append}
use Rattle.std.proofs.lemmas.Option.{slice_get-get_or, slice_get_past, slice_get_within, slice_get-map}
use Rattle.std.proofs.Math.ListN.{length-set}
use Rattle.intake_rules.specs.Jobs.{AcceptedPlan}
use Rattle.intake_rules.specs.Intake.{is_of, jobs_of}
use Rattle.intake_core.specs.declared.slot.Planner.{Planner}
use Rattle.intake_core.specs.Rows.{line_of, last_of, IsLine, linked, or_else, joined}
use Rattle.intake_core.proofs.Tables.{length-push, get-push_before, get-push_at, get-push_past, in-filter}

-- the jobs are numbered by their indexes
abbrev pub Numbered : List AcceptedPlan → Type 0
Numbered jobs = (j : ℕ) (job : AcceptedPlan) → slice_get jobs j ≡ Some job → job.number ≡ j

-- a job of a planner, by its number
pub record IsJobOf (jobs : List AcceptedPlan) (planner number : ℕ) (job : AcceptedPlan) : Type 0 where
  pub at : slice_get jobs number ≡ Some job
  pub whose : job.planner ≡ planner

some-of : (o : Option AcceptedPlan) (j : ℕ) → option_map (λ job. job.number) o ≡ Some j → (job : AcceptedPlan) × ((o ≡ Some job) × (job.number ≡ j))
some-of (Some job) j e = (job, (refl, let same : job.number ≡ j = cc in same))
some-of None j e = absurd (cc)

-- each number of a planner's line is that of a job of the planner
pub on-line : (jobs : List AcceptedPlan) (planner k j : ℕ) → Numbered jobs → slice_get (line_of planner jobs) k ≡ Some j
    → (job : AcceptedPlan) × IsJobOf jobs planner j job
unfolding jobs_of
on-line jobs planner k j numbered e =
    let some = some-of (slice_get (filter (is_of planner) jobs) k) j (sym (slice_get-map (λ job. job.number) (filter (is_of planner) jobs) k) ∙ e) in
    let found = in-filter (is_of planner) jobs k some.0 some.1.0 in
    let index : found.0 ≡ j = sym (numbered found.0 some.0 found.1.0) ∙ some.1.1 in
    (some.0, record { at = ap (slice_get jobs) (sym index) ∙ found.1.0; whose = eqb-true some.0.planner planner found.1.1 })

-- a job that is accepted comes to the end of its planner's line
line-own : (jobs : List AcceptedPlan) (job : AcceptedPlan) → line_of job.planner (jobs ++ job ∷ []) ≡ line_of job.planner jobs ++ job.number ∷ []
unfolding jobs_of
line-own jobs job =
    ap (map (λ j. j.number)) (filter-append (is_of job.planner) jobs (job ∷ []) ∙ ap (λ b. filter (is_of job.planner) jobs ++ cond b (job ∷ []) []) (eq-eqb job.planner job.planner refl))
    ∙ map-append (λ j. j.number) (filter (is_of job.planner) jobs) (job ∷ [])

-- and leaves the other lines
line-other : (jobs : List AcceptedPlan) (job : AcceptedPlan) (planner : ℕ) → job.planner ≢ planner → line_of planner (jobs ++ job ∷ []) ≡ line_of planner jobs
unfolding jobs_of
line-other jobs job planner apart =
    ap (map (λ j. j.number))
    (filter-append (is_of planner) jobs (job ∷ [])
    ∙ ap (λ b. filter (is_of planner) jobs ++ cond b (job ∷ []) []) (not_of (is_of planner job) refl)
    ∙ append-nil (filter (is_of planner) jobs))
  where
    not_of : (b : Bool) → is_of planner job ≡ b → is_of planner job ≡ false
    not_of true e = absurd (apart (eqb-true job.planner planner e))
    not_of false e = e

-- no number of one line is the last of another
module _ (jobs : List AcceptedPlan) (numbered : Numbered jobs) where
  pub apart-lines : (p q k l j : ℕ) → p ≢ q → slice_get (line_of p jobs) l ≡ Some j → slice_get (line_of q jobs) k ≡ Some j → ⊥
  apart-lines p q k l j apart first second =
      let mine = on-line jobs p l j numbered first in
      let yours = on-line jobs q k j numbered second in
      let same : Some mine.0 ≡ Some yours.0 = sym mine.1.at ∙ yours.1.at in
      let job : mine.0 ≡ yours.0 = cc in
      apart (sym mine.1.whose ∙ ap (λ x. x.planner) job ∙ yours.1.whose)

-- the link of a job that is no last one stays
stays : (links : List (Option ℕ)) (last : Option ℕ) (number j : ℕ) → ((l : ℕ) → last ≡ Some l → j ≢ l) → get_or (linked links last number) j None ≡ get_or links j None
stays links None number j apart = refl
stays links (Some l) number j apart = get_or-set_other links l j (Some number) None (apart l refl)

pub length-linked : (links : List (Option ℕ)) (last : Option ℕ) (number : ℕ) → length (linked links last number) ≡ length links
length-linked links None number = refl
length-linked links (Some l) number = length-set links l (Some number)

-- the facts of a line, told of the list that it is
record IsLineAs (numbers : List ℕ) (links : List (Option ℕ)) (row : Planner) : Type 0 where
  pub next : row.next ≡ slice_get numbers row.emitted
  pub last : row.last ≡ last_of numbers
  pub told : row.emitted ≤ length numbers
  pub along : (k j : ℕ) → slice_get numbers k ≡ Some j → get_or links j None ≡ slice_get numbers (suc k)

rw-line : {jobs : List AcceptedPlan} {links : List (Option ℕ)} {planner : ℕ} {row : Planner} {numbers : List ℕ} → line_of planner jobs ≡ numbers
    → IsLineAs numbers links row → IsLine jobs links planner row
rw-line {jobs} {links} {planner} {row} {numbers} is facts =
    let at : IsLineAs (line_of planner jobs) links row = subst (λ ns. IsLineAs ns links row) (sym is) facts in
    record { next = at.next; last = at.last; told = at.told; along = at.along }

-- what stands behind a new last number of a line, where the links lead along the line before
module _ (line : List ℕ) (links : List (Option ℕ)) (last : Option ℕ) (number : ℕ) (at_end : length links ≡ number) (ends : last ≡ last_of line)
    (along : (k j : ℕ) → slice_get line k ≡ Some j → get_or links j None ≡ slice_get line (suc k)) (below : (k j : ℕ) → slice_get line k ≡ Some j → j < number) where
  lead : (j : ℕ) → j < number → get_or (linked links last number ++ None ∷ []) j None ≡ get_or (linked links last number) j None
  lead j within = get_or_append_left (linked links last number) (None ∷ []) None j (omega (arith, length-linked links last number, within, at_end))

  last-at : (k : ℕ) → suc k ≡ length line → last ≡ slice_get line k
  last-at k same = ends ∙ ap (slice_get line) (omega (arith, same))

  -- a number that is not the last of the line
  before : (k j : ℕ) → suc k < length line → slice_get line k ≡ Some j → get_or (linked links last number ++ None ∷ []) j None ≡ slice_get (line ++ number ∷ []) (suc k)
  before k j within e =
      lead j (below k j e) ∙ stays links last number j apart ∙ along k j e ∙ sym (get-push_before line number (suc k) within)
    where
      -- the last number leads nowhere yet
      apart : (l : ℕ) → last ≡ Some l → j ≢ l
      apart l is same =
          let past : slice_get line (length line) ≡ None = slice_get_past line (length line) (omega arith) in
          let end : slice_get line (length line - 1) ≡ Some l = sym ends ∙ is in
          let whole : suc (length line - 1) ≡ length line = omega (arith, within) in
          let nowhere : get_or links l None ≡ None = along (length line - 1) l end ∙ ap (slice_get line) whole ∙ past in
          let here : slice_get line (suc k) ≡ None = sym (along k j e) ∙ ap (λ i. get_or links i None) same ∙ nowhere in
          let there : slice_get line (suc k) ≡ Some (get_or line (suc k) 0) = slice_get-get_or line (suc k) 0 within in
          let both : None ≡ Some (get_or line (suc k) 0) = sym here ∙ there in
          absurd cc

  -- the last number of the line
  final : (k j : ℕ) → suc k ≡ length line → slice_get line k ≡ Some j → get_or (linked links last number ++ None ∷ []) j None ≡ slice_get (line ++ number ∷ []) (suc k)
  final k j same e =
      lead j (below k j e)
      ∙ ap (λ o. get_or (linked links o number) j None) (last-at k same ∙ e)
      ∙ get_or-set_same links j (Some number) None (omega (arith, below k j e, at_end))
      ∙ sym (get-push_at line number (suc k) (sym same))

  -- the new number
  newest : (k j : ℕ) → length line ≡ k → slice_get (line ++ number ∷ []) k ≡ Some j → get_or (linked links last number ++ None ∷ []) j None ≡ slice_get (line ++ number ∷ []) (suc k)
  newest k j same e =
      let some : Some number ≡ Some j = sym (get-push_at line number k same) ∙ e in
      let it : number ≡ j = cc in
      get_or_push (linked links last number) None None j (length-linked links last number ∙ at_end ∙ it)
      ∙ sym (get-push_past line number (suc k) (omega (arith, same)))

  pub leads-on : (k j : ℕ) → slice_get (line ++ number ∷ []) k ≡ Some j → get_or (linked links last number ++ None ∷ []) j None ≡ slice_get (line ++ number ∷ []) (suc k)
  leads-on k j e =
      ⊎_elim
      (λ (inside : k < length line).
      let old : slice_get line k ≡ Some j = sym (get-push_before line number k inside) ∙ e in
      ⊎_elim
      (λ (early : suc k < length line). before k j early old)
      (λ (late : length line ≤ suc k). final k j (omega (arith, inside, late)) old)
      (cases_lt (suc k) (length line)))
      (λ (outside : length line ≤ k).
      ⊎_elim
      (λ (same : length line ≡ k). newest k j same e)
      (λ (apart : length line ≢ k).
      let none : None ≡ Some j = sym (get-push_past line number k (omega (arith, outside, apart))) ∙ e in
      absurd cc)
      (cases_eq (length line) k))
      (cases_lt k (length line))

-- a number on a line is below the number of jobs
pub on-line-lt : (jobs : List AcceptedPlan) (planner k j : ℕ) → Numbered jobs → slice_get (line_of planner jobs) k ≡ Some j → j < length jobs
on-line-lt jobs planner k j numbered e = let found = on-line jobs planner k j numbered e in slice_get_within jobs j found.0 found.1.at

-- where the line goes on once a number came to its end
next-joined : (line : List ℕ) (next : Option ℕ) (number told : ℕ) → told ≤ length line → next ≡ slice_get line told → or_else next number ≡ slice_get (line ++ number ∷ []) told
next-joined line next number told within is =
    ⊎_elim
    (λ (more : told < length line).
    let some : next ≡ Some (get_or line told 0) = is ∙ slice_get-get_or line told 0 more in
    ap (λ o. or_else o number) some ∙ sym (slice_get-get_or line told 0 more) ∙ sym (get-push_before line number told more))
    (λ (all : length line ≤ told).
    ap (λ o. or_else o number) (is ∙ slice_get_past line told all) ∙ sym (get-push_at line number told (omega (arith, all, within))))
    (cases_lt told (length line))

-- a planner's line and row when one of its own jobs is accepted
pub line-joined : (jobs : List AcceptedPlan) (links : List (Option ℕ)) (row : Planner) (job : AcceptedPlan) → Numbered jobs → length links ≡ length jobs
    → job.number ≡ length jobs → IsLine jobs links job.planner row
    → IsLine (jobs ++ job ∷ []) (linked links row.last job.number ++ None ∷ []) job.planner (joined row job.number)
line-joined jobs links row job numbered len number line =
    let old = line_of job.planner jobs in
    rw-line (line-own jobs job)
    (record {
      next = next-joined old row.next job.number row.emitted line.told line.next;
      last = sym (get-push_at old job.number (length (old ++ job.number ∷ []) - 1) (omega (arith, length-push old job.number)));
      told = omega (arith, length-push old job.number, line.told);
      along = leads-on old links row.last job.number (len ∙ sym number) line.last line.along (λ k j e. omega (arith, number, on-line-lt jobs job.planner k j numbered e));
    })

-- another planner's line
pub line-kept : (jobs : List AcceptedPlan) (links : List (Option ℕ)) (row own : Planner) (job : AcceptedPlan) (planner : ℕ) → Numbered jobs → length links ≡ length jobs
    → job.planner ≢ planner → IsLine jobs links job.planner own → IsLine jobs links planner row
    → IsLine (jobs ++ job ∷ []) (linked links own.last job.number ++ None ∷ []) planner row
line-kept jobs links row own job planner numbered len apart mine line =
    rw-line (line-other jobs job planner apart)
    (record {
      next = line.next;
      last = line.last;
      told = line.told;
      along = λ k j e.
          let within : j < length (linked links own.last job.number) = omega (arith, length-linked links own.last job.number, len, on-line-lt jobs planner k j numbered e) in
          get_or_append_left (linked links own.last job.number) (None ∷ []) None j within
          ∙ stays links own.last job.number j
          (λ l is same. apart-lines jobs numbered job.planner planner k (length (line_of job.planner jobs) - 1) j apart (sym mine.last ∙ is ∙ ap Some (sym same)) e)
          ∙ line.along k j e;
    })

-- a planner's row when the finding of its next job is emitted
pub line-emitted : (jobs : List AcceptedPlan) (links : List (Option ℕ)) (row : Planner) (planner number : ℕ) (link : Option ℕ) → IsLine jobs links planner row
    → row.next ≡ Some number → link ≡ get_or links number None → IsLine jobs links planner (record row { emitted = row.emitted + 1; next = link })
line-emitted jobs links row planner number link line next link_is =
    let here : slice_get (line_of planner jobs) row.emitted ≡ Some number = sym line.next ∙ next in
    record {
      next = link_is ∙ line.along row.emitted number here ∙ ap (slice_get (line_of planner jobs)) (sym (add-one row.emitted));
      last = line.last;
      told = let within : row.emitted < length (line_of planner jobs) = slice_get_within (line_of planner jobs) row.emitted number here in omega (arith, within);
      along = line.along;
    }
