-- Single steps of the reader.

use Rattle.std.proofs.Common.{◌≡◌, ℕ, ◌<◌, ◌≤◌, ◌^◌, Bool, true, false, List, [], ◌∷◌, ◌++◌, length, take, drop, nat_eq, Option, Some, None, refl, sym, ap, ◌∙◌, subst}
use Rattle.std.specs.Prelude.{cond, nat_lt}
use Rattle.std.specs.Cmp.Lexicographic.{pointwise}
use Rattle.std.proofs.Math.Bool.{and-true}
use Rattle.std.proofs.lemmas.Bool.{lt-ltb, le-ltb, and_parts}
use Rattle.pddl_words.specs.Words.{is_name, folded}
use Rattle.pddl_tokens.specs.declared.spans.Span.{Span}
use Rattle.pddl_tokens.specs.declared.spans.TokenKind.{TokenKind}
use Rattle.pddl_tokens.specs.declared.spans.TokenKind.TheVariants.{Right}
use Rattle.pddl_tokens.specs.Tokens.{Piece, token, bad, pieces}
use Rattle.strips_task.specs.declared.plans.Plan.TheVariants.{Unreadable}
use Rattle.strips_task.specs.OpenPlan.{OpenPlan}
use Rattle.plan_text.specs.declared.want.Want.{Want}
use Rattle.plan_text.specs.declared.want.Want.TheVariants.{Step, Number, Opening, Action, Argument}
use Rattle.plan_text.specs.declared.want.Expected.{Expected}
use Rattle.plan_text.specs.MarkedNumbers.{number_before}
use Rattle.plan_text.specs.PlanGrammar.{Symbol, left, right, word, symbol_of}
use Rattle.plan_text.specs.PlanReading.{Reading, then_want, begun, risen, stamped, numbered, followed, named, by_want, read_on, nothing_read, at_end, behind, unreadable, plan_from, plan_of}
use Rattle.plan_text.specs.Wants.{takes_name}
use Rattle.plan_text.specs.PlanSteps.{reading, IsReady, LeadsTo, ReadsOn, ReadsBetween}
use Rattle.plan_text.proofs.MarkedNumbers.{no_last}
use Rattle.strips_task.specs.declared.steps.TheConstants.{MOST_STEPS}

pub plan_end : (text : List ℕ) (r : Reading) → plan_from text r [] ≡ at_end r.want text r.steps
unfolding plan_from
plan_end text r = refl

pub plan_bad : (text : List ℕ) (r : Reading) (at : ℕ) (ps : List Piece) → plan_from text r (bad at ∷ ps) ≡ unreadable text at
unfolding plan_from
plan_bad text r at ps = refl

pub plan_goes_on : (text : List ℕ) (r : Reading) (kind : TokenKind) (span : Span) (bytes : List ℕ) (ps : List Piece) (next : Reading) → read_on r (symbol_of kind bytes) ≡ Some next → plan_from text r (token kind span bytes ∷ ps) ≡ plan_from text next ps
unfolding plan_from
plan_goes_on text r kind span bytes ps next is = ap (behind text span.start (λ n. plan_from text n ps)) is

pub plan_refused : (text : List ℕ) (r : Reading) (kind : TokenKind) (span : Span) (bytes : List ℕ) (ps : List Piece) → read_on r (symbol_of kind bytes) ≡ None → plan_from text r (token kind span bytes ∷ ps) ≡ unreadable text span.start
unfolding plan_from
plan_refused text r kind span bytes ps is = ap (behind text span.start (λ n. plan_from text n ps)) is

pub plan_too_long : (text : List ℕ) → 2 ^ 31 ≤ length text → plan_of text ≡ Unreadable 1
unfolding plan_of
plan_too_long text long = ap (λ (t : Bool). cond t (plan_from text nothing_read (pieces text)) (Unreadable 1)) (le-ltb (length text) (2 ^ 31) long)

pub plan_short : (text : List ℕ) → length text < 2 ^ 31 → plan_from text nothing_read (pieces text) ≡ plan_of text
unfolding plan_of
plan_short text short = sym (ap (λ (t : Bool). cond t (plan_from text nothing_read (pieces text)) (Unreadable 1)) (lt-ltb (length text) (2 ^ 31) short))

-- reading a token on, by what may come
pub read_by : (want : Want) (expected : Expected) (plan new : OpenPlan) (s : Symbol) (next : Option Expected) → expected.want ≡ want → LeadsTo next new (by_want want (reading expected plan) s) → ReadsOn next expected plan s new
unfolding read_on
read_by want expected plan new s next is leads = subst (λ (w : Want). LeadsTo next new (by_want w (reading expected plan) s)) (sym is) leads

-- a word behind a stamp
no_word : (want : Want) (r : Reading) (text : List ℕ) → takes_name want ≡ false → (want ≡ Step → ⊥) → (want ≡ Number → ⊥) → by_want want r (word text) ≡ None
no_word Step r text takes step number = absurd (step refl)
no_word Number r text takes step number = absurd (number refl)
no_word Opening r text takes step number = refl
no_word Action r text takes step number = absurd cc
no_word Argument r text takes step number = absurd cc

pub word_refused : (expected : Expected) (plan : OpenPlan) (text : List ℕ) → takes_name expected.want ≡ false → (expected.want ≡ Step → ⊥) → (expected.want ≡ Number → ⊥) → read_on (reading expected plan) (word text) ≡ None
unfolding read_on
word_refused expected plan text takes step number = no_word expected.want (reading expected plan) text takes step number

-- a `(` between steps
pub step_begins : (result : Option Expected) (expected next : Expected) (plan : OpenPlan) → next ≡ record { want = Action; least_stamp = expected.least_stamp } → plan.words ≡ [] → ((length plan.steps < MOST_STEPS → IsReady next.want plan) → LeadsTo result plan (begun (reading next plan) (Some (reading next plan)))) → LeadsTo result plan (begun (reading expected plan) (Some (then_want Action (reading expected plan))))
step_begins result expected next plan same none leads =
    subst (λ (n : Expected). (length plan.steps < MOST_STEPS → IsReady n.want plan) → LeadsTo result plan (begun (reading n plan) (Some (reading n plan)))) same leads (λ few. (none, few))

-- between steps no word is open
pub none_open : (want between : Want) (plan : OpenPlan) → want ≡ between → IsReady want plan → IsReady between plan
none_open want between plan is ready = subst (λ (w : Want). IsReady w plan) is ready

-- a `(` behind a stamp
pub opening_reads : (expected next : Expected) (plan : OpenPlan) → expected.want ≡ Opening → next ≡ record { want = Action; least_stamp = expected.least_stamp } → IsReady expected.want plan → ReadsOn (Some next) expected plan left plan
opening_reads expected next plan is same ready =
    read_by Opening expected plan plan left (Some next) is (
    subst (λ (n : Expected). LeadsTo (Some n) plan (by_want Opening (reading expected plan) left)) (sym same) (refl, subst (λ (w : Want). IsReady w plan) is ready)
    )

-- a parenthesis where it may not stand
no_left : (want : Want) (r : Reading) → (want ≡ Step → ⊥) → (want ≡ Number → ⊥) → (want ≡ Opening → ⊥) → by_want want r left ≡ None
no_left Step r step number opening = absurd (step refl)
no_left Number r step number opening = absurd (number refl)
no_left Opening r step number opening = absurd (opening refl)
no_left Action r step number opening = refl
no_left Argument r step number opening = refl

pub left_refused : (expected : Expected) (plan : OpenPlan) → (expected.want ≡ Step → ⊥) → (expected.want ≡ Number → ⊥) → (expected.want ≡ Opening → ⊥) → ReadsOn None expected plan left plan
left_refused expected plan step number opening =
    read_by expected.want expected plan plan left None refl (no_left expected.want (reading expected plan) step number opening)

no_right : (want : Want) (r : Reading) → (want ≡ Argument → ⊥) → by_want want r right ≡ None
no_right Step r other = refl
no_right Number r other = refl
no_right Opening r other = refl
no_right Action r other = refl
no_right Argument r other = absurd (other refl)

pub right_refused : (expected : Expected) (plan : OpenPlan) → (expected.want ≡ Argument → ⊥) → read_on (reading expected plan) right ≡ None
unfolding read_on
right_refused expected plan other = no_right expected.want (reading expected plan) other

not_inside : (want : Want) → takes_name want ≡ false → want ≡ Argument → ⊥
not_inside Step outside is = cc
not_inside Number outside is = cc
not_inside Opening outside is = cc
not_inside Action outside is = cc
not_inside Argument outside is = cc

pub right_outside : (expected : Expected) (count : ℕ) (kind : TokenKind) (text : List ℕ) → kind ≡ Right → takes_name expected.want ≡ false → ReadsBetween None expected count (symbol_of kind text)
right_outside expected count kind text is outside =
    subst (λ (k : TokenKind). ReadsBetween None expected count (symbol_of k text)) (sym is) (λ plan counted ready. right_refused expected plan (not_inside expected.want outside))

-- a word inside a step that is no name
pub unnamed_refused : (r : Reading) (text : List ℕ) → is_name text ≡ false → named r text ≡ None
unnamed_refused r text is = ap (λ (t : Bool). cond t (Some (record { want = Argument; least = r.least; steps = r.steps; words = r.words ++ folded text ∷ [] })) None) is

-- a word behind a step that begins with `[`, and one that does not
begun_none : (t : Bool) → ◌≡◌ {A = Option Reading} (cond t None None) None
begun_none true = refl
begun_none false = refl

pub no_stamp : (r : Reading) (text : List ℕ) → None ≡ number_before 58 text → stamped r text ≡ None
no_stamp r text none = ap (λ (o : Option ℕ). begun r (risen r o)) (sym none) ∙ begun_none (nat_lt (length r.steps) MOST_STEPS)

followed_number : (r : Reading) (text number : List ℕ) → pointwise nat_eq (take 1 text) (91 ∷ []) ≡ true → number ≡ drop 1 text → followed r text ≡ numbered r (number_before 93 number)
followed_number r [] number is same = absurd cc
followed_number r (b ∷ text) number is same =
    ap (λ (t : Bool). cond t (numbered r (number_before 93 text)) (stamped r (b ∷ text))) (and_parts (nat_eq b 91) true is).0
    ∙ ap (λ (n : List ℕ). numbered r (number_before 93 n)) (sym same)

followed_stamp : (r : Reading) (text : List ℕ) → pointwise nat_eq (take 1 text) (91 ∷ []) ≡ false → followed r text ≡ stamped r text
followed_stamp r [] is = sym (no_stamp r [] (no_last 58 [] refl))
followed_stamp r (b ∷ text) is =
    ap (λ (t : Bool). cond t (numbered r (number_before 93 text)) (stamped r (b ∷ text))) (sym (and-true (nat_eq b 91)) ∙ is)

pub bracket_refused : (next : Option Expected) (plan : OpenPlan) (r : Reading) (text number : List ℕ) → next ≡ None → pointwise nat_eq (take 1 text) (91 ∷ []) ≡ true → number ≡ drop 1 text → None ≡ number_before 93 number → LeadsTo next plan (followed r text)
bracket_refused next plan r text number is begins same none =
    subst (λ (n : Option Expected). LeadsTo n plan (followed r text)) (sym is) (followed_number r text number begins same ∙ ap (numbered r) (sym none))

pub stamp_follows : (next : Option Expected) (plan : OpenPlan) (r : Reading) (text : List ℕ) → pointwise nat_eq (take 1 text) (91 ∷ []) ≡ false → LeadsTo next plan (stamped r text) → LeadsTo next plan (followed r text)
stamp_follows next plan r text is leads = subst (LeadsTo next plan) (sym (followed_stamp r text is)) leads
