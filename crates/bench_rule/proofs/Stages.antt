-- The shown intake where one slot and one view change.

use Rattle.std.proofs.Common.{◌≡◌, ◌≢◌, ◌<◌, ◌≤◌, ℕ, zero, suc, ◌+◌, List, [], ◌∷◌, ◌++◌, slice_get, Some, length, get_or, set, add-one, sym, refl, ap, ◌∙◌, arith}
use mathlib.Core.Option.{some, some-injective, some-ne-none}
use mathlib.Core.Option as maybe
use lib.ListN.{get_elem?}
use Rattle.intake_rules.specs.declared.stage.Stage.{Stage}
use Rattle.intake_rules.specs.Intake.{Intake, with_stage}
use Rattle.intake_rules.specs.Jobs.{AcceptedPlan}
use Rattle.bench_rule.specs.declared.views.View.{View}
use Rattle.bench_rule.specs.Shown.{owner_of, slot_words, stage_at, stages, shown}
use Rattle.bench_rule.specs.Sound.{HasView, word_of}
use Rattle.bench_rule.specs.Views.{Content, Bench}

abbrev pub Homes : Type 0
Homes = List (maybe.Option Content)

-- the intake that these words, homes and this view of the owner show
abbrev pub showing : List ℕ → Homes → View → Intake
showing words homes owner = record { jobs = owner.jobs; stages = stages (slot_words words) homes owner.jobs; closed = owner.closed; emitted = owner.emitted }

-- the intake that these stages and this view of the owner show
abbrev pub staged : View → List Stage → Intake
staged owner shown_stages = record { jobs = owner.jobs; stages = shown_stages; closed = owner.closed; emitted = owner.emitted }

pub owner_is : (views : List View) (view : View) → get_elem? views 0 ≡ some view → owner_of views ≡ view
owner_is [] view e = absurd (some-ne-none view (sym e))
owner_is (x ∷ xs) view e = some-injective x view e

pub owner_set : (views : List View) (view later : View) → get_elem? views 0 ≡ some view → owner_of (set views 0 later) ≡ later
owner_set [] view later e = absurd (some-ne-none view (sym e))
owner_set (x ∷ xs) view later e = refl

-- a change of a view that leaves jobs, closed planners and emitted counts shows the same
pub view_shown : (words : List ℕ) (homes : Homes) (views : List View) (id : ℕ) (view later : View) → get_elem? views id ≡ some view → later.jobs ≡ view.jobs → later.closed ≡ view.closed → later.emitted ≡ view.emitted
    → showing words homes (owner_of (set views id later)) ≡ showing words homes (owner_of views)
view_shown words homes [] id view later e jobs closed emitted = absurd (some-ne-none view (sym e))
view_shown words homes (x ∷ xs) zero view later e jobs closed emitted = let same = some-injective x view e in
    let j : later.jobs ≡ x.jobs = jobs ∙ ap (λ (v : View). v.jobs) (sym same) in let c : later.closed ≡ x.closed = closed ∙ ap (λ (v : View). v.closed) (sym same) in let d : later.emitted ≡ x.emitted = emitted ∙ ap (λ (v : View). v.emitted) (sym same) in
    λ i. record { jobs = j i; stages = stages (slot_words words) homes (j i); closed = c i; emitted = d i }
view_shown words homes (x ∷ xs) (suc id) view later e jobs closed emitted = refl

slot_words_set : (words : List ℕ) (slot word : ℕ) → slot_words (set words (slot + 1) word) ≡ set (slot_words words) slot word
slot_words_set [] slot word = refl
slot_words_set (x ∷ xs) slot word = rw add-one refl

pub slot_word : (words : List ℕ) (slot : ℕ) → get_or (slot_words words) slot 0 ≡ word_of words slot
slot_word [] slot = refl
slot_word (x ∷ xs) slot = rw add-one refl

pub length-slot_words : (words : List ℕ) (n : ℕ) → length words ≡ n + 1 → length (slot_words words) ≡ n
length-slot_words [] n e = absurd (omega arith)
length-slot_words (x ∷ xs) n e = omega arith

stages_set : (words : List ℕ) (homes : Homes) (jobs : List AcceptedPlan) (slot word : ℕ) (home : maybe.Option Content) → stages (set words slot word) (set homes slot home) jobs ≡ set (stages words homes jobs) slot (stage_at word home)
stages_set [] homes jobs slot word home = refl
stages_set (w ∷ ws) [] jobs slot word home = stages_none (set (w ∷ ws) slot word) jobs
  where
    stages_none : (words : List ℕ) (jobs : List AcceptedPlan) → stages words [] jobs ≡ []
    stages_none [] jobs = refl
    stages_none (x ∷ xs) jobs = refl
stages_set (w ∷ ws) (h ∷ hs) [] slot word home = no_jobs (set (w ∷ ws) slot word) (set (h ∷ hs) slot home)
  where
    no_jobs : (words : List ℕ) (homes : Homes) → stages words homes [] ≡ []
    no_jobs [] homes = refl
    no_jobs (x ∷ xs) [] = refl
    no_jobs (x ∷ xs) (y ∷ ys) = refl
stages_set (w ∷ ws) (h ∷ hs) (job ∷ jobs) zero word home = refl
stages_set (w ∷ ws) (h ∷ hs) (job ∷ jobs) (suc slot) word home = ap (λ (ss : List Stage). stage_at w h ∷ ss) (stages_set ws hs jobs slot word home)

-- a slot past the jobs shows nothing
stages_past : (words : List ℕ) (homes : Homes) (jobs : List AcceptedPlan) (slot word : ℕ) (home : maybe.Option Content) → length jobs ≤ slot → stages (set words slot word) (set homes slot home) jobs ≡ stages words homes jobs
stages_past [] homes jobs slot word home h = refl
stages_past (w ∷ ws) [] jobs slot word home h = stages_none (set (w ∷ ws) slot word) jobs
  where
    stages_none : (words : List ℕ) (jobs : List AcceptedPlan) → stages words [] jobs ≡ []
    stages_none [] jobs = refl
    stages_none (x ∷ xs) jobs = refl
stages_past (w ∷ ws) (x ∷ xs) [] slot word home h = no_jobs (set (w ∷ ws) slot word) (set (x ∷ xs) slot home)
  where
    no_jobs : (words : List ℕ) (homes : Homes) → stages words homes [] ≡ []
    no_jobs [] homes = refl
    no_jobs (y ∷ ys) [] = refl
    no_jobs (y ∷ ys) (z ∷ zs) = refl
stages_past (w ∷ ws) (x ∷ xs) (job ∷ jobs) zero word home h = absurd (omega arith)
stages_past (w ∷ ws) (x ∷ xs) (job ∷ jobs) (suc slot) word home h = ap (λ (ss : List Stage). stage_at w x ∷ ss) (stages_past ws xs jobs slot word home (omega arith))

-- a slot for one job more
stages_push : (words : List ℕ) (homes : Homes) (jobs : List AcceptedPlan) (job : AcceptedPlan) (word : ℕ) (home : maybe.Option Content) → length jobs < length words → length jobs < length homes
    → stages (set words (length jobs) word) (set homes (length jobs) home) (jobs ++ job ∷ []) ≡ stages words homes jobs ++ stage_at word home ∷ []
stages_push [] homes jobs job word home h k = absurd (omega arith)
stages_push (w ∷ ws) [] jobs job word home h k = absurd (omega arith)
stages_push (w ∷ ws) (x ∷ xs) [] job word home h k = no_more ws xs
  where
    no_more : (words : List ℕ) (homes : Homes) → stages (word ∷ words) (home ∷ homes) (job ∷ []) ≡ stage_at word home ∷ []
    no_more [] homes = refl
    no_more (y ∷ ys) [] = refl
    no_more (y ∷ ys) (z ∷ zs) = refl
stages_push (w ∷ ws) (x ∷ xs) (y ∷ ys) job word home h k = ap (λ (ss : List Stage). stage_at w x ∷ ss) (stages_push ws xs ys job word home (omega arith) (omega arith))

-- the stage of a job
stage_there : (words : List ℕ) (homes : Homes) (jobs : List AcceptedPlan) (slot word : ℕ) (home : maybe.Option Content) (job : AcceptedPlan) → slice_get jobs slot ≡ Some job → slot < length words → get_or words slot 0 ≡ word → get_elem? homes slot ≡ some home
    → slice_get (stages words homes jobs) slot ≡ Some (stage_at word home)
stage_there [] homes jobs slot word home job there lt is rests = absurd (omega arith)
stage_there (w ∷ ws) [] jobs slot word home job there lt is rests = absurd (some-ne-none home (sym rests))
stage_there (w ∷ ws) (x ∷ xs) [] slot word home job there lt is rests = cc
stage_there (w ∷ ws) (x ∷ xs) (y ∷ ys) zero word home job there lt is rests = λ i. Some (stage_at (is i) (some-injective x home rests i))
stage_there (w ∷ ws) (x ∷ xs) (y ∷ ys) (suc slot) word home job there lt is rests = stage_there ws xs ys slot word home job there (omega arith) is rests

-- the shown stage of an accepted job
pub stage_shown : (bench : Bench) (slot word : ℕ) (home : maybe.Option Content) (job : AcceptedPlan) → length bench.words ≡ length bench.homes + 1 → slot < length bench.homes → slice_get (owner_of bench.views).jobs slot ≡ Some job → word_of bench.words slot ≡ word → get_elem? bench.homes slot ≡ some home
    → slice_get (shown bench).stages slot ≡ Some (stage_at word home)
stage_shown bench slot word home job wide inside there is rests = stage_there (slot_words bench.words) bench.homes (owner_of bench.views).jobs slot word home job there
    (let long = length-slot_words bench.words (length bench.homes) wide in omega arith) (slot_word bench.words slot ∙ is) rests

-- another word and another home for one slot, and no other jobs, closed planners and counts
pub slot_shown : (bench : Bench) (slot word : ℕ) (home : maybe.Option Content) (id : ℕ) (view later : View) → HasView bench id view → later.jobs ≡ view.jobs → later.closed ≡ view.closed → later.emitted ≡ view.emitted
    → shown record { words = set bench.words (slot + 1) word; homes = set bench.homes slot home; views = set bench.views id later } ≡ with_stage (shown bench) slot (stage_at word home)
slot_shown bench slot word home id view later mine jobs closed emitted =
    let words : List ℕ = set bench.words (slot + 1) word in let homes : Homes = set bench.homes slot home in let owner : View = owner_of bench.views in
    view_shown words homes bench.views id view later mine jobs closed emitted
    ∙ ap (staged owner)
    (ap (λ (ws : List ℕ). stages ws homes owner.jobs) (slot_words_set bench.words slot word) ∙ stages_set (slot_words bench.words) bench.homes owner.jobs slot word home)

-- the same for a slot past the jobs: nothing else is shown
pub past_shown : (bench : Bench) (slot word : ℕ) (home : maybe.Option Content) (id : ℕ) (view later : View) → HasView bench id view → later.jobs ≡ view.jobs → later.closed ≡ view.closed → later.emitted ≡ view.emitted → length (owner_of bench.views).jobs ≤ slot
    → shown record { words = set bench.words (slot + 1) word; homes = set bench.homes slot home; views = set bench.views id later } ≡ shown bench
past_shown bench slot word home id view later mine jobs closed emitted past =
    let words : List ℕ = set bench.words (slot + 1) word in let homes : Homes = set bench.homes slot home in let owner : View = owner_of bench.views in
    view_shown words homes bench.views id view later mine jobs closed emitted
    ∙ ap (staged owner)
    (ap (λ (ws : List ℕ). stages ws homes owner.jobs) (slot_words_set bench.words slot word) ∙ stages_past (slot_words bench.words) bench.homes owner.jobs slot word home past)

-- the stages after another word and home for one slot
pub stages_after : (words : List ℕ) (homes : Homes) (jobs : List AcceptedPlan) (slot word : ℕ) (home : maybe.Option Content)
    → stages (slot_words (set words (slot + 1) word)) (set homes slot home) jobs ≡ set (stages (slot_words words) homes jobs) slot (stage_at word home)
stages_after words homes jobs slot word home = ap (λ (ws : List ℕ). stages ws (set homes slot home) jobs) (slot_words_set words slot word) ∙ stages_set (slot_words words) homes jobs slot word home

-- and where they are of one job more
pub stages_more : (words : List ℕ) (homes : Homes) (jobs : List AcceptedPlan) (job : AcceptedPlan) (slot word : ℕ) (home : maybe.Option Content) → slot ≡ length jobs → slot < length homes → length words ≡ length homes + 1
    → stages (slot_words (set words (slot + 1) word)) (set homes slot home) (jobs ++ job ∷ []) ≡ stages (slot_words words) homes jobs ++ stage_at word home ∷ []
stages_more words homes jobs job slot word home at inside wide =
    ap (λ (ws : List ℕ). stages ws (set homes slot home) (jobs ++ job ∷ [])) (slot_words_set words slot word)
    ∙ (ap (λ (r : ℕ). stages (set (slot_words words) r word) (set homes r home) (jobs ++ job ∷ [])) at
    ∙ stages_push (slot_words words) homes jobs job word home (let long = length-slot_words words (length homes) wide in omega arith) (omega arith))

-- another first word shows the same
pub first_word_shown : (words : List ℕ) (word : ℕ) → slot_words (set words 0 word) ≡ slot_words words
first_word_shown [] word = refl
first_word_shown (x ∷ xs) word = refl

-- a view more at the end is not the owner's
pub more_views : (views : List View) (view last : View) → get_elem? views 0 ≡ some view → owner_of (views ++ last ∷ []) ≡ owner_of views
more_views [] view last e = absurd (some-ne-none view (sym e))
more_views (x ∷ xs) view last e = refl

pub owner_else : (views : List View) (id : ℕ) (later : View) → id ≢ 0 → owner_of (set views id later) ≡ owner_of views
owner_else [] id later apart = refl
owner_else (x ∷ xs) zero later apart = absurd (apart refl)
owner_else (x ∷ xs) (suc id) later apart = refl
