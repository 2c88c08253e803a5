-- Plan texts are read as the steps for which they stand.

use Rattle.std.proofs.Common.{◌≡◌, ℕ, ◌+◌, ◌<◌, ◌≤◌, Bool, true, List, [], ◌∷◌, ◌++◌, length, map, Option, Some, None, refl, sym, ap, ◌∙◌, arith, append_assoc, length-append}
use Rattle.std.specs.Prelude.{All, IsTrue, IfSome, cond}
use Rattle.std.specs.List.{flat_map}
use Rattle.std.specs.Option.{option_and_then}
use Rattle.std.proofs.lemmas.List.{append-nil}
use Rattle.std.proofs.lemmas.List.Elements.{All-head, All-tail}
use Rattle.std.proofs.lemmas.Bool.{lt-ltb, le-leb}
use Rattle.pddl_words.specs.Words.{is_name, folded}
use Rattle.strips_task.specs.declared.steps.StepText.{StepText}
use Rattle.strips_task.specs.Steps.{step_of}
use Rattle.plan_text.specs.declared.want.Want.{Want}
use Rattle.plan_text.specs.declared.want.Want.TheVariants.{Step, Number, Opening, Action, Argument}
use Rattle.pddl_words.specs.Decimals.{Decimal, IsDecimal, IsDigit, behind_whole, billionths}
use Rattle.plan_text.specs.MarkedNumbers.{number_before}
use Rattle.plan_text.specs.PlanGrammar.{Symbol, left, right, word, stamp_word, bracket_word, perhaps, WrittenStep, step_symbols, IsStep, meant, IsPlanText}
use Rattle.plan_text.specs.PlanReading.{Reading, nothing_read, begun, risen, stamped, numbered, followed, named, read_on}
use Rattle.plan_text.specs.Walks.{IsBetween}
use Rattle.pddl_words.proofs.DecimalLaws.{no_bracket}
use Rattle.plan_text.proofs.DecimalLaws.{number_read}
use Rattle.plan_text.proofs.Stamps.{least_after, RisesAt, Rises, least_at, rises, want_after, want_at}
use Rattle.strips_task.specs.declared.steps.TheConstants.{MOST_STEPS}

abbrev pub reading : Want → ℕ → List StepText → List (List ℕ) → Reading
reading want least steps words = record { want = want; least = least; steps = steps; words = words }

-- behind several tokens
abbrev pub run : Reading → List Symbol → Option Reading
run r [] = Some r
run r (s ∷ symbols) = option_and_then (λ next. run next symbols) (read_on r s)

run-append_by : (o : Option Reading) (a b : List Symbol) → ((next : Reading) → run next (a ++ b) ≡ option_and_then (λ n. run n b) (run next a)) → option_and_then (λ next. run next (a ++ b)) o ≡ option_and_then (λ n. run n b) (option_and_then (λ next. run next a) o)
run-append_by None a b rest = refl
run-append_by (Some next) a b rest = rest next

-- reading tokens in two parts
pub run-append : (r : Reading) (a b : List Symbol) → run r (a ++ b) ≡ option_and_then (λ next. run next b) (run r a)
run-append r [] b = refl
run-append r (s ∷ a) b = run-append_by (read_on r s) a b (λ next. run-append next a b)

pub between_after : (number : Option Decimal) → IsBetween (want_after number)
between_after None = tt
between_after (Some d) = tt

pub between_at : (want : Want) (written : List WrittenStep) → IsBetween want → IsBetween (want_at want written)
between_at want [] between = between
between_at want (s ∷ written) between = between_at (want_after s.number) written (between_after s.number)

-- a word of a step that is a name is read on
pub read_name : (r : Reading) (text : List ℕ) → is_name text ≡ true → named r text ≡ Some (reading Argument r.least r.steps (r.words ++ folded text ∷ []))
read_name r text is = ap (λ (t : Bool). cond t (Some (reading Argument r.least r.steps (r.words ++ folded text ∷ []))) None) is

has_room : (r : Reading) (next : Option Reading) → length r.steps < MOST_STEPS → begun r next ≡ next
has_room r next few = ap (λ (t : Bool). cond t next None) (lt-ltb (length r.steps) MOST_STEPS few)

-- a `(` between steps is read on
pub read_left : (want : Want) (least : ℕ) (steps : List StepText) → IsBetween want → length steps < MOST_STEPS → read_on (reading want least steps []) left ≡ Some (reading Action least steps [])
unfolding read_on
read_left Step least steps between few = has_room (reading Step least steps []) _ few
read_left Number least steps between few = has_room (reading Number least steps []) _ few
read_left Opening least steps between few = absurd between
read_left Action least steps between few = absurd between
read_left Argument least steps between few = absurd between

-- a stamp that rises is read on
read_stamp : (r : Reading) (number : Decimal) → length r.steps < MOST_STEPS → IsDecimal number → r.least ≤ billionths number → stamped r (stamp_word number) ≡ Some (reading Opening (billionths number + 1) r.steps r.words)
read_stamp r number few is rise =
    has_room r _ few ∙ ap (risen r) (number_read 58 number is)
    ∙ ap (λ (t : Bool). cond t (Some (reading Opening (billionths number + 1) r.steps r.words)) None) (le-leb r.least (billionths number) rise)

-- a stamp is no bracketed number
stamp_follows : (r : Reading) (whole fraction : List ℕ) → IsDecimal (record { whole = whole; fraction = fraction }) → followed r ((whole ++ behind_whole fraction) ++ 58 ∷ []) ≡ stamped r ((whole ++ behind_whole fraction) ++ 58 ∷ [])
stamp_follows r [] fraction is = absurd (omega (arith, is.some))
stamp_follows r (b ∷ whole) fraction is =
    ap (λ (t : Bool). cond t (numbered r (number_before 93 ((whole ++ behind_whole fraction) ++ 58 ∷ []))) (stamped r ((b ∷ (whole ++ behind_whole fraction)) ++ 58 ∷ []))) (no_bracket b (All-head IsDigit b whole is.whole))

read_stamp_between : (want : Want) (least : ℕ) (steps : List StepText) (number : Decimal) → IsBetween want → length steps < MOST_STEPS → IsDecimal number → least ≤ billionths number → read_on (reading want least steps []) (word (stamp_word number)) ≡ Some (reading Opening (billionths number + 1) steps [])
unfolding read_on
read_stamp_between Step least steps number between few is rise = read_stamp (reading Step least steps []) number few is rise
read_stamp_between Number least steps number between few is rise =
    stamp_follows (reading Number least steps []) number.whole number.fraction is ∙ read_stamp (reading Number least steps []) number few is rise
read_stamp_between Opening least steps number between few is rise = absurd between
read_stamp_between Action least steps number between few is rise = absurd between
read_stamp_between Argument least steps number between few is rise = absurd between

-- the stamp and the `(` of a step are read on
run_opening : (want : Want) (least : ℕ) (steps : List StepText) (stamp : Option Decimal) (more : List Symbol) → IsBetween want → length steps < MOST_STEPS → IfSome stamp IsDecimal → RisesAt least stamp → run (reading want least steps []) (perhaps stamp_word stamp ++ left ∷ more) ≡ run (reading Action (least_after least stamp) steps []) more
unfolding read_on
run_opening want least steps None more between few is rise = ap (option_and_then (λ next. run next more)) (read_left want least steps between few)
run_opening want least steps (Some number) more between few is rise =
    ap (option_and_then (λ next. run next (left ∷ more))) (read_stamp_between want least steps number between few is rise)

-- the arguments of a step are read on
run_args : (least : ℕ) (steps : List StepText) (words args : List (List ℕ)) (more : List Symbol) → All (λ name. IsTrue (is_name name)) args → run (reading Argument least steps words) (map word args ++ more) ≡ run (reading Argument least steps (words ++ map folded args)) more
unfolding read_on
run_args least steps words [] more names = ap (λ (ws : List (List ℕ)). run (reading Argument least steps ws) more) (sym (append-nil words))
run_args least steps words (arg ∷ args) more names =
    ap (option_and_then (λ next. run next (map word args ++ more))) (read_name (reading Argument least steps words) arg (All-head (λ name. IsTrue (is_name name)) arg args names))
    ∙ run_args least steps (words ++ folded arg ∷ []) args more (All-tail (λ name. IsTrue (is_name name)) arg args names)
    ∙ ap (λ (ws : List (List ℕ)). run (reading Argument least steps ws) more) (append_assoc words (folded arg ∷ []) (map folded args))

-- the number behind a step is read on
run_number : (least : ℕ) (steps : List StepText) (number : Option Decimal) (more : List Symbol) → IfSome number IsDecimal → run (reading Number least steps []) (perhaps bracket_word number ++ more) ≡ run (reading (want_after number) least steps []) more
unfolding read_on
run_number least steps None more is = refl
run_number least steps (Some number) more is =
    ap (λ (o : Option ℕ). option_and_then (λ next. run next more) (numbered (reading Number least steps []) o)) (number_read 93 number is)

-- a step is read as what it means
run_step : (want : Want) (least : ℕ) (steps : List StepText) (s : WrittenStep) (more : List Symbol) → IsBetween want → length steps < MOST_STEPS → IsStep s → RisesAt least s.stamp → run (reading want least steps []) (step_symbols s ++ more) ≡ run (reading (want_after s.number) (least_after least s.stamp) (steps ++ meant s ∷ []) []) more
unfolding read_on step_of
run_step want least steps s more between few is rise =
    let behind = right ∷ perhaps bracket_word s.number in
    let next = least_after least s.stamp in
    ap (run (reading want least steps [])) (append_assoc (perhaps stamp_word s.stamp) (left ∷ word s.action ∷ (map word s.args ++ behind)) more)
    ∙ run_opening want least steps s.stamp (word s.action ∷ ((map word s.args ++ behind) ++ more)) between few is.stamp rise
    ∙ ap (option_and_then (λ r. run r ((map word s.args ++ behind) ++ more))) (read_name (reading Action next steps []) s.action is.action)
    ∙ ap (run (reading Argument next steps (folded s.action ∷ []))) (append_assoc (map word s.args) behind more)
    ∙ run_args next steps (folded s.action ∷ []) s.args (behind ++ more) is.args
    ∙ run_number next (steps ++ meant s ∷ []) s.number more is.number

-- the steps of a plan are read as what they mean
run_written : (want : Want) (least : ℕ) (steps : List StepText) (written : List WrittenStep) → IsBetween want → length steps + length written ≤ MOST_STEPS → All IsStep written → Rises least written → run (reading want least steps []) (flat_map step_symbols written) ≡ Some (reading (want_at want written) (least_at least written) (steps ++ map meant written) [])
run_written want least steps [] between few are rise = ap (λ (ss : List StepText). Some (reading want least ss [])) (sym (append-nil steps))
run_written want least steps (s ∷ written) between few are rise =
    run_step want least steps s (flat_map step_symbols written) between (omega arith) (All-head IsStep s written are) rise.0
    ∙ run_written (want_after s.number) (least_after least s.stamp) (steps ++ meant s ∷ []) written (between_after s.number) (omega (arith, length-append steps (meant s ∷ []))) (All-tail IsStep s written are) rise.1
    ∙ ap (λ (ss : List StepText). Some (reading (want_at (want_after s.number) written) (least_at (least_after least s.stamp) written) ss [])) (append_assoc steps (meant s ∷ []) (map meant written))

-- tokens are read to their end as these steps, and no step is begun there
pub record IsReadWhole (symbols : List Symbol) (steps : List StepText) : Type 0 where
  pub want : Want
  pub least : ℕ
  pub between : IsBetween want
  pub ran : run nothing_read symbols ≡ Some (reading want least steps [])

-- a plan text is read as its steps
pub run_plan : (symbols : List Symbol) (steps : List StepText) → IsPlanText symbols steps → IsReadWhole symbols steps
run_plan symbols steps plan = record {
  want = want_at Step plan.written;
  least = least_at 0 plan.written;
  between = between_at Step plan.written tt;
  ran =
      ap (run nothing_read) plan.spelled
      ∙ run_written Step 0 [] plan.written tt (omega (arith, plan.few)) plan.are_steps (rises 0 plan.written plan.rising (λ some. omega arith))
      ∙ ap (λ (ss : List StepText). Some (reading (want_at Step plan.written) (least_at 0 plan.written) ss [])) (sym plan.read);
}
