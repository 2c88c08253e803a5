-- The plans of a file, part by part, and of the files, one by one.

use Rattle.std.proofs.Common.{◌≡◌, ℕ, zero, suc, ◌+◌, ◌<◌, List, [], ◌∷◌, ◌++◌, Option, length, map, take, get_or, ap, sym, ◌∙◌, arith, append_assoc, append-nil}
use Rattle.std.specs.Prelude.{slice_range}
use Rattle.std.proofs.lemmas.List.{get_or_default, take_more, length-append, length-map, length-take}
use Rattle.judge_bench.specs.Submissions.{SubmissionParts}
use Rattle.plan_text.specs.Bundle.{parts, parts_from, parts_behind}
use Rattle.judge_engine.specs.Bundle.{BundleValue}
use Rattle.judge_engine.specs.Plans.{bytes_of, plan_of_part, plans_of_file, plans_of_files}

-- the plans of the parts from an index on
abbrev pub plans_from : ℕ → List ℕ → ℕ → List SubmissionParts
plans_from planner bytes start = map (plan_of_part planner) (parts_from bytes start)

-- the bytes of the file with a number
pub bytes_are : (bundles : List BundleValue) (i : ℕ) (bundle : BundleValue) → i < length bundles → bundle ≡ get_or bundles i bundle → bytes_of bundles i ≡ bundle.bytes
bytes_are [] i bundle lt is = absurd (omega arith)
bytes_are (b ∷ bundles) zero bundle lt is = ap (λ (b : BundleValue). b.bytes) (sym is)
bytes_are (b ∷ bundles) (suc i) bundle lt is = bytes_are bundles i bundle (omega (arith, lt)) is

-- those of a file are its plans
pub plans_are : (bundles : List BundleValue) (i : ℕ) (bundle : BundleValue) → i < length bundles → bundle ≡ get_or bundles i bundle
    → map (plan_of_part i) (parts (bytes_of bundles i)) ≡ plans_of_file i bundle
unfolding plans_of_file
plans_are bundles i bundle lt is = ap (λ (bytes : List ℕ). map (plan_of_part i) (parts bytes)) (bytes_are bundles i bundle lt is)

-- there is one part more at least
pub parts_past : (planner : ℕ) (bytes : List ℕ) (start end : ℕ) (next : Option ℕ) (old plans : List SubmissionParts)
    → plans ++ plans_from planner bytes start ≡ old ++ map (plan_of_part planner) (parts bytes)
    → parts_from bytes start ≡ slice_range bytes start end ∷ parts_behind bytes next
    → length plans < length old + length (parts bytes)
parts_past planner bytes start end next old plans same first =
    omega (
      arith,
      ap length same,
      ap length first,
      length-append plans (plans_from planner bytes start),
      length-append old (map (plan_of_part planner) (parts bytes)),
      length-map (parts_from bytes start) (plan_of_part planner),
      length-map (parts bytes) (plan_of_part planner),
    )

-- the plans of one file more
files_behind : (planner : ℕ) (bundles : List BundleValue) (bundle : BundleValue) → plans_of_files planner (bundles ++ bundle ∷ []) ≡ plans_of_files planner bundles ++ plans_of_file (planner + length bundles) bundle
files_behind planner [] bundle =
    append-nil (plans_of_file planner bundle) ∙ ap (λ (n : ℕ). plans_of_file n bundle) (let same : planner ≡ planner + 0 = omega arith in same)
files_behind planner (b ∷ bundles) bundle =
    ap (λ l. plans_of_file planner b ++ l) (files_behind (suc planner) bundles bundle)
    ∙ sym (append_assoc (plans_of_file planner b) (plans_of_files (suc planner) bundles) (plans_of_file (suc planner + length bundles) bundle))
    ∙ ap (λ (n : ℕ). (plans_of_file planner b ++ plans_of_files (suc planner) bundles) ++ plans_of_file n bundle) (let same : suc planner + length bundles ≡ planner + suc (length bundles) = omega arith in same)

pub file_more : (bundles : List BundleValue) (i : ℕ) (bundle : BundleValue) → i < length bundles → bundle ≡ get_or bundles i bundle
    → plans_of_files 0 (take (i + 1) bundles) ≡ plans_of_files 0 (take i bundles) ++ plans_of_file i bundle
file_more bundles i bundle lt is =
    let count : 0 + length (take i bundles) ≡ i = omega (arith, length-take i bundles) in
    ap (plans_of_files 0) (take_more bundles i bundle lt ∙ ap (λ (b : BundleValue). take i bundles ++ b ∷ []) (sym is))
    ∙ files_behind 0 (take i bundles) bundle
    ∙ ap (λ (n : ℕ). plans_of_files 0 (take i bundles) ++ plans_of_file n bundle) count

-- the same by the bytes of the file
pub file_more_at : (bundles : List BundleValue) (i : ℕ) → i < length bundles
    → plans_of_files 0 (take (i + 1) bundles) ≡ plans_of_files 0 (take i bundles) ++ map (plan_of_part i) (parts (bytes_of bundles i))
file_more_at bundles i lt =
    let none : BundleValue = record { name = []; bytes = [] } in
    let bundle = get_or bundles i none in
    let is : bundle ≡ get_or bundles i bundle = get_or_default bundles i none bundle lt in
    file_more bundles i bundle lt is ∙ ap (λ l. plans_of_files 0 (take i bundles) ++ l) (sym (plans_are bundles i bundle lt is))
