-- Whatever was read so far begins some plan text, and what is not read on begins none.

use Rattle.std.proofs.Common.{◌≡◌, ℕ, ◌+◌, ◌<◌, ◌≤◌, Bool, true, false, List, [], ◌∷◌, ◌++◌, length, map, Option, Some, None, refl, sym, ap, ◌∙◌, subst, arith, append_assoc, length-append}
use Rattle.std.specs.Prelude.{◌==◌, All, IsTrue, IfSome, cond, nat_lt, nat_le}
use Rattle.std.specs.List.{flat_map}
use Rattle.std.specs.Option.{option_and_then}
use Rattle.std.proofs.lemmas.Grind.{flat_map-append}
use Rattle.std.proofs.lemmas.List.{append-nil, length-map, map_push}
use Rattle.std.proofs.lemmas.List.Elements.{All-nil, All-push}
use Rattle.std.proofs.lemmas.Bool.{ltb-true, leb-true, eqb-true}
use Rattle.pddl_words.specs.Words.{is_name, folded}
use Rattle.strips_task.specs.declared.steps.StepText.{StepText}
use Rattle.strips_task.specs.Steps.{step_of}
use Rattle.plan_text.specs.declared.want.Want.{Want}
use Rattle.plan_text.specs.declared.want.Want.TheVariants.{Step, Number, Opening, Action, Argument}
use Rattle.pddl_words.specs.Decimals.{Decimal, IsDecimal}
use Rattle.plan_text.specs.MarkedNumbers.{number_before}
use Rattle.plan_text.specs.PlanGrammar.{Symbol, left, right, word, stamp_word, bracket_word, perhaps, WrittenStep, step_symbols, IsStep, meant, IsPlanText, IsViable}
use Rattle.plan_text.specs.PlanReading.{Reading, nothing_read, risen, stamped, numbered, followed, closed, by_want, read_on}
use Rattle.plan_text.proofs.DecimalLaws.{IsNumberWord, number_found}
use Rattle.plan_text.proofs.Stamps.{least_after, RisesAt, Rises, least_at, increases, rises_push, least_push, want_after, want_at, want_push}
use Rattle.plan_text.specs.Walks.{IsBetween}
use Rattle.plan_text.proofs.Runs.{reading, run, run-append, run_plan}
use Rattle.strips_task.specs.declared.steps.TheConstants.{MOST_STEPS}

-- tokens are a plan text, behind which this may come, from this stamp on
pub record IsWritten (tokens : List Symbol) (want : Want) (least : ℕ) (steps : List StepText) : Type 0 where
  pub written : List WrittenStep
  pub spelled : tokens ≡ flat_map step_symbols written
  pub are_steps : All IsStep written
  pub rising : Rises 0 written
  pub wanted : want ≡ want_at Step written
  pub least_is : least ≡ least_at 0 written
  pub read : steps ≡ map meant written
  pub few : length written ≤ MOST_STEPS

is_plan : (tokens : List Symbol) (want : Want) (least : ℕ) (steps : List StepText) → IsWritten tokens want least steps → IsPlanText tokens steps
is_plan tokens want least steps w = record {
  written = w.written;
  spelled = w.spelled;
  are_steps = w.are_steps;
  rising = (increases 0 w.written w.rising).0;
  read = w.read;
  few = w.few;
}

no_tokens : IsWritten [] Step 0 []
no_tokens = record { written = []; spelled = refl; are_steps = All-nil IsStep; rising = tt; wanted = refl; least_is = refl; read = refl; few = omega arith }

-- one more step
written_more : (front tokens : List Symbol) (want : Want) (before least : ℕ) (steps after : List StepText) (s : WrittenStep) → IsWritten front want before steps → IsStep s → RisesAt before s.stamp → length steps < MOST_STEPS → tokens ≡ front ++ step_symbols s → least ≡ least_after before s.stamp → after ≡ steps ++ meant s ∷ [] → IsWritten tokens (want_after s.number) least after
written_more front tokens want before least steps after s w is rise few spelled least_is read = record {
  written = w.written ++ s ∷ [];
  spelled =
      spelled ∙ ap (λ (ss : List Symbol). ss ++ step_symbols s) w.spelled
      ∙ ap (λ (ss : List Symbol). flat_map step_symbols w.written ++ ss) (sym (append-nil (step_symbols s)))
      ∙ sym (flat_map-append step_symbols w.written (s ∷ []));
  are_steps = All-push IsStep w.written s w.are_steps is;
  rising = rises_push 0 w.written s w.rising (subst (λ (l : ℕ). RisesAt l s.stamp) w.least_is rise);
  wanted = sym (want_push Step w.written s);
  least_is = least_is ∙ ap (λ (l : ℕ). least_after l s.stamp) w.least_is ∙ sym (least_push 0 w.written s);
  read = read ∙ ap (λ (ss : List StepText). ss ++ meant s ∷ []) w.read ∙ sym (map_push meant w.written s);
  few = omega (arith, ap length w.read, length-map w.written meant, length-append w.written (s ∷ []));
}

-- tokens are a plan text and these first tokens of one more step, which has this stamp
pub record IsBehind (done first : List Symbol) (stamp : Option Decimal) (least : ℕ) (steps : List StepText) : Type 0 where
  pub front : List Symbol
  pub want : Want
  pub before : ℕ
  pub written : IsWritten front want before steps
  pub spelled : done ≡ front ++ first
  pub decimal : IfSome stamp IsDecimal
  pub rise : RisesAt before stamp
  pub least_is : least ≡ least_after before stamp
  pub few : length steps < MOST_STEPS

behind_more : (done first begun : List Symbol) (s : Symbol) (stamp : Option Decimal) (least : ℕ) (steps : List StepText) → IsBehind done first stamp least steps → first ++ s ∷ [] ≡ begun → IsBehind (done ++ s ∷ []) begun stamp least steps
behind_more done first begun s stamp least steps b same = record {
  front = b.front;
  want = b.want;
  before = b.before;
  written = b.written;
  spelled = ap (λ (ss : List Symbol). ss ++ s ∷ []) b.spelled ∙ append_assoc b.front first (s ∷ []) ∙ ap (λ (ss : List Symbol). b.front ++ ss) same;
  decimal = b.decimal;
  rise = b.rise;
  least_is = b.least_is;
  few = b.few;
}

-- behind a stamp
pub record IsStamped (done : List Symbol) (least : ℕ) (steps : List StepText) (words : List (List ℕ)) : Type 0 where
  pub number : Decimal
  pub behind : IsBehind done (word (stamp_word number) ∷ []) (Some number) least steps
  pub none : words ≡ []

-- behind a `(`
pub record IsOpened (done : List Symbol) (least : ℕ) (steps : List StepText) (words : List (List ℕ)) : Type 0 where
  pub stamp : Option Decimal
  pub behind : IsBehind done (perhaps stamp_word stamp ++ left ∷ []) stamp least steps
  pub none : words ≡ []

-- behind an action's name, and names of objects
pub record IsNamed (done : List Symbol) (least : ℕ) (steps : List StepText) (words : List (List ℕ)) : Type 0 where
  pub stamp : Option Decimal
  pub action : List ℕ
  pub args : List (List ℕ)
  pub behind : IsBehind done (perhaps stamp_word stamp ++ left ∷ word action ∷ map word args) stamp least steps
  pub action_name : IsTrue (is_name action)
  pub arg_names : All (λ name. IsTrue (is_name name)) args
  pub read : words ≡ folded action ∷ map folded args

-- a step with these parts, and this number behind it
abbrev pub with_number : Option Decimal → List ℕ → List (List ℕ) → Option Decimal → WrittenStep
with_number stamp action args number = record { stamp = stamp; action = action; args = args; number = number }

-- behind a `)`, where the step's number may come
pub record IsClosed (done : List Symbol) (least : ℕ) (steps : List StepText) (words : List (List ℕ)) : Type 0 where
  pub before : List StepText
  pub stamp : Option Decimal
  pub action : List ℕ
  pub args : List (List ℕ)
  pub behind : IsBehind done (step_symbols (with_number stamp action args None)) stamp least before
  pub action_name : IsTrue (is_name action)
  pub arg_names : All (λ name. IsTrue (is_name name)) args
  pub read : steps ≡ before ++ meant (with_number stamp action args None) ∷ []
  pub none : words ≡ []

-- what the tokens so far are, by what may come next
abbrev pub Reached : Want → List Symbol → ℕ → List StepText → List (List ℕ) → Type 0
Reached Step done least steps words = IsWritten done Step least steps × (words ≡ [])
Reached Number done least steps words = IsClosed done least steps words
Reached Opening done least steps words = IsStamped done least steps words
Reached Action done least steps words = IsOpened done least steps words
Reached Argument done least steps words = IsNamed done least steps words

abbrev pub IsReached : List Symbol → Reading → Type 0
IsReached done r = Reached r.want done r.least r.steps r.words

pub reached_start : IsReached [] nothing_read
reached_start = (no_tokens, refl)

closed_step : (done : List Symbol) (least : ℕ) (steps : List StepText) (words : List (List ℕ)) (c : IsClosed done least steps words) (number : Option Decimal) → IfSome number IsDecimal → IsStep (with_number c.stamp c.action c.args number)
closed_step done least steps words c number is = record { stamp = c.behind.decimal; action = c.action_name; args = c.arg_names; number = is }

closed_written : (done : List Symbol) (least : ℕ) (steps : List StepText) (words : List (List ℕ)) → IsClosed done least steps words → IsWritten done Number least steps
closed_written done least steps words c =
    written_more c.behind.front done c.behind.want c.behind.before least c.before steps (with_number c.stamp c.action c.args None) c.behind.written
    (closed_step done least steps words c None tt) c.behind.rise c.behind.few c.behind.spelled c.behind.least_is c.read

-- one more token

reached_left : (done : List Symbol) (want : Want) (least : ℕ) (steps : List StepText) (words : List (List ℕ)) → IsWritten done want least steps → words ≡ [] → length steps < MOST_STEPS → IsOpened (done ++ left ∷ []) least steps words
reached_left done want least steps words w none few = record {
  stamp = None;
  behind = record { front = done; want = want; before = least; written = w; spelled = refl; decimal = tt; rise = tt; least_is = refl; few = few };
  none = none;
}

reached_stamp : (done : List Symbol) (want : Want) (least value : ℕ) (steps : List StepText) (words : List (List ℕ)) (text : List ℕ) → IsWritten done want least steps → words ≡ [] → length steps < MOST_STEPS → IsNumberWord 58 text value → least ≤ value → IsStamped (done ++ word text ∷ []) (value + 1) steps words
reached_stamp done want least value steps words text w none few is rise = record {
  number = is.number;
  behind = record {
    front = done;
    want = want;
    before = least;
    written = w;
    spelled = ap (λ (t : List ℕ). done ++ word t ∷ []) is.spelled;
    decimal = is.is;
    rise = omega (arith, is.valued);
    least_is = ap (λ (n : ℕ). n + 1) is.valued;
    few = few;
  };
  none = none;
}

reached_opening : (done : List Symbol) (least : ℕ) (steps : List StepText) (words : List (List ℕ)) → IsStamped done least steps words → IsOpened (done ++ left ∷ []) least steps words
reached_opening done least steps words s = record {
  stamp = Some s.number;
  behind = behind_more done _ _ left (Some s.number) least steps s.behind refl;
  none = s.none;
}

reached_action : (done : List Symbol) (least : ℕ) (steps : List StepText) (words : List (List ℕ)) (text : List ℕ) → IsOpened done least steps words → is_name text ≡ true → IsNamed (done ++ word text ∷ []) least steps (words ++ folded text ∷ [])
reached_action done least steps words text o is = record {
  stamp = o.stamp;
  action = text;
  args = [];
  behind = behind_more done _ _ (word text) o.stamp least steps o.behind (append_assoc (perhaps stamp_word o.stamp) (left ∷ []) (word text ∷ []));
  action_name = is;
  arg_names = All-nil (λ name. IsTrue (is_name name));
  read = ap (λ (ws : List (List ℕ)). ws ++ folded text ∷ []) o.none;
}

reached_argument : (done : List Symbol) (least : ℕ) (steps : List StepText) (words : List (List ℕ)) (text : List ℕ) → IsNamed done least steps words → is_name text ≡ true → IsNamed (done ++ word text ∷ []) least steps (words ++ folded text ∷ [])
reached_argument done least steps words text n is =
    let same : (perhaps stamp_word n.stamp ++ left ∷ word n.action ∷ map word n.args) ++ word text ∷ [] ≡ perhaps stamp_word n.stamp ++ left ∷ word n.action ∷ map word (n.args ++ text ∷ []) =
    append_assoc (perhaps stamp_word n.stamp) (left ∷ word n.action ∷ map word n.args) (word text ∷ [])
    ∙ ap (λ (ss : List Symbol). perhaps stamp_word n.stamp ++ left ∷ word n.action ∷ ss) (sym (map_push word n.args text)) in
    record {
      stamp = n.stamp;
      action = n.action;
      args = n.args ++ text ∷ [];
      behind = behind_more done _ _ (word text) n.stamp least steps n.behind same;
      action_name = n.action_name;
      arg_names = All-push (λ name. IsTrue (is_name name)) n.args text n.arg_names is;
      read = ap (λ (ws : List (List ℕ)). ws ++ folded text ∷ []) n.read ∙ ap (λ (ws : List (List ℕ)). folded n.action ∷ ws) (sym (map_push folded n.args text));
    }

reached_right : (done : List Symbol) (least : ℕ) (steps : List StepText) (words : List (List ℕ)) → IsNamed done least steps words → IsClosed (done ++ right ∷ []) least (steps ++ step_of words ∷ []) []
unfolding step_of
reached_right done least steps words n = record {
  before = steps;
  stamp = n.stamp;
  action = n.action;
  args = n.args;
  behind = behind_more done _ _ right n.stamp least steps n.behind (append_assoc (perhaps stamp_word n.stamp) (left ∷ word n.action ∷ map word n.args) (right ∷ []));
  action_name = n.action_name;
  arg_names = n.arg_names;
  read = ap (λ (ws : List (List ℕ)). steps ++ step_of ws ∷ []) n.read;
  none = refl;
}

reached_number : (done : List Symbol) (least value : ℕ) (steps : List StepText) (words : List (List ℕ)) (text : List ℕ) → IsClosed done least steps words → IsNumberWord 93 text value → IsWritten (done ++ word (91 ∷ text) ∷ []) Step least steps
reached_number done least value steps words text c is =
    let stamp = perhaps stamp_word c.stamp in
    let names = map word c.args in
    let number = word (bracket_word is.number) in
    let spelled : done ++ word (91 ∷ text) ∷ [] ≡ c.behind.front ++ step_symbols (with_number c.stamp c.action c.args (Some is.number)) =
    ap (λ (t : List ℕ). done ++ word (91 ∷ t) ∷ []) is.spelled ∙ ap (λ (ss : List Symbol). ss ++ number ∷ []) c.behind.spelled
    ∙ append_assoc c.behind.front (step_symbols (with_number c.stamp c.action c.args None)) (number ∷ [])
    ∙ ap (λ (ss : List Symbol). c.behind.front ++ ss) (append_assoc stamp (left ∷ word c.action ∷ (names ++ right ∷ [])) (number ∷ []))
    ∙ ap (λ (ss : List Symbol). c.behind.front ++ (stamp ++ (left ∷ word c.action ∷ ss))) (append_assoc names (right ∷ []) (number ∷ [])) in
    written_more c.behind.front _ c.behind.want c.behind.before least c.before steps (with_number c.stamp c.action c.args (Some is.number)) c.behind.written
    (closed_step done least steps words c (Some is.number) is.is) c.behind.rise c.behind.few spelled c.behind.least_is c.read

-- `Some` on one side of a test
some_chosen : {A : Type 0} (b : Bool) (x next : A) → cond b (Some x) None ≡ Some next → (b ≡ true) × (x ≡ next)
some_chosen true x next is = (refl, cc)
some_chosen false x next is = cc

chosen : {A : Type 0} (b : Bool) (o : Option A) (next : A) → cond b o None ≡ Some next → (b ≡ true) × (o ≡ Some next)
chosen true o next is = (refl, is)
chosen false o next is = cc

left_read : (done : List Symbol) (want : Want) (least : ℕ) (steps : List StepText) (words : List (List ℕ)) (next : Reading) → IsWritten done want least steps → words ≡ [] → cond (nat_lt (length steps) MOST_STEPS) (Some (reading Action least steps words)) None ≡ Some next → IsReached (done ++ left ∷ []) next
left_read done want least steps words next w none is =
    let (few, same) = some_chosen (nat_lt (length steps) MOST_STEPS) (reading Action least steps words) next is in
    subst (IsReached (done ++ left ∷ [])) same (reached_left done want least steps words w none (ltb-true _ _ few))

stamp_read_by : (done : List Symbol) (want : Want) (least : ℕ) (steps : List StepText) (words : List (List ℕ)) (text : List ℕ) (next : Reading) (o : Option ℕ) → IsWritten done want least steps → words ≡ [] → length steps < MOST_STEPS → number_before 58 text ≡ o → risen (reading want least steps words) o ≡ Some next → IsReached (done ++ word text ∷ []) next
stamp_read_by done want least steps words text next None w none few read is = absurd cc
stamp_read_by done want least steps words text next (Some value) w none few read is =
    let (rise, same) = some_chosen (nat_le least value) (reading Opening (value + 1) steps words) next is in
    subst (IsReached (done ++ word text ∷ [])) same (reached_stamp done want least value steps words text w none few (number_found 58 text value read) (leb-true _ _ rise))

stamp_read : (done : List Symbol) (want : Want) (least : ℕ) (steps : List StepText) (words : List (List ℕ)) (text : List ℕ) (next : Reading) → IsWritten done want least steps → words ≡ [] → stamped (reading want least steps words) text ≡ Some next → IsReached (done ++ word text ∷ []) next
stamp_read done want least steps words text next w none is =
    let (few, rest) = chosen (nat_lt (length steps) MOST_STEPS) (risen (reading want least steps words) (number_before 58 text)) next is in
    stamp_read_by done want least steps words text next (number_before 58 text) w none (ltb-true _ _ few) refl rest

number_read_by : (done : List Symbol) (least : ℕ) (steps : List StepText) (words : List (List ℕ)) (text : List ℕ) (next : Reading) (o : Option ℕ) → IsClosed done least steps words → number_before 93 text ≡ o → numbered (reading Number least steps words) o ≡ Some next → IsReached (done ++ word (91 ∷ text) ∷ []) next
number_read_by done least steps words text next None c read is = absurd cc
number_read_by done least steps words text next (Some value) c read is =
    let same : reading Step least steps words ≡ next = cc in
    subst (IsReached (done ++ word (91 ∷ text) ∷ [])) same (reached_number done least value steps words text c (number_found 93 text value read), c.none)

followed_by : (done : List Symbol) (least : ℕ) (steps : List StepText) (words : List (List ℕ)) (b : ℕ) (text : List ℕ) (next : Reading) (t : Bool) → IsClosed done least steps words → (b == 91) ≡ t → cond t (numbered (reading Number least steps words) (number_before 93 text)) (stamped (reading Number least steps words) (b ∷ text)) ≡ Some next → IsReached (done ++ word (b ∷ text) ∷ []) next
followed_by done least steps words b text next true c test is =
    subst (λ (x : ℕ). IsReached (done ++ word (x ∷ text) ∷ []) next) (sym (eqb-true b 91 test)) (number_read_by done least steps words text next (number_before 93 text) c refl is)
followed_by done least steps words b text next false c test is =
    stamp_read done Number least steps words (b ∷ text) next (closed_written done least steps words c) c.none is

followed_read : (done : List Symbol) (least : ℕ) (steps : List StepText) (words : List (List ℕ)) (text : List ℕ) (next : Reading) → IsClosed done least steps words → followed (reading Number least steps words) text ≡ Some next → IsReached (done ++ word text ∷ []) next
followed_read done least steps words [] next c is = absurd cc
followed_read done least steps words (b ∷ text) next c is = followed_by done least steps words b text next (b == 91) c refl is

-- what was reached is kept by each token that is read on
reached_step : (want : Want) (least : ℕ) (steps : List StepText) (words : List (List ℕ)) (done : List Symbol) (s : Symbol) (next : Reading) → Reached want done least steps words → by_want want (reading want least steps words) s ≡ Some next → IsReached (done ++ s ∷ []) next
reached_step Step least steps words done left next reached is = left_read done Step least steps words next reached.0 reached.1 is
reached_step Step least steps words done right next reached is = absurd cc
reached_step Step least steps words done (word text) next reached is = stamp_read done Step least steps words text next reached.0 reached.1 is
reached_step Number least steps words done left next reached is =
    left_read done Number least steps words next (closed_written done least steps words reached) reached.none is
reached_step Number least steps words done right next reached is = absurd cc
reached_step Number least steps words done (word text) next reached is = followed_read done least steps words text next reached is
reached_step Opening least steps words done left next reached is =
    let same : reading Action least steps words ≡ next = cc in
    subst (IsReached (done ++ left ∷ [])) same (reached_opening done least steps words reached)
reached_step Opening least steps words done right next reached is = absurd cc
reached_step Opening least steps words done (word text) next reached is = absurd cc
reached_step Action least steps words done left next reached is = absurd cc
reached_step Action least steps words done right next reached is = absurd cc
reached_step Action least steps words done (word text) next reached is =
    let (name, same) = some_chosen (is_name text) (reading Argument least steps (words ++ folded text ∷ [])) next is in
    subst (IsReached (done ++ word text ∷ [])) same (reached_action done least steps words text reached name)
reached_step Argument least steps words done left next reached is = absurd cc
reached_step Argument least steps words done right next reached is =
    let same : closed (reading Argument least steps words) ≡ next = cc in
    subst (IsReached (done ++ right ∷ [])) same (reached_right done least steps words reached)
reached_step Argument least steps words done (word text) next reached is =
    let (name, same) = some_chosen (is_name text) (reading Argument least steps (words ++ folded text ∷ [])) next is in
    subst (IsReached (done ++ word text ∷ [])) same (reached_argument done least steps words text reached name)

pub reached_on : (r : Reading) (done : List Symbol) (s : Symbol) (next : Reading) → IsReached done r → read_on r s ≡ Some next → IsReached (done ++ s ∷ []) next
unfolding read_on
reached_on r done s next reached is = reached_step r.want r.least r.steps r.words done s next reached is

-- behind a step's words it can end
viable_named : (done : List Symbol) (least : ℕ) (steps : List StepText) (words : List (List ℕ)) → IsNamed done least steps words → IsViable done
viable_named done least steps words reached = record {
  more = right ∷ [];
  steps = steps ++ step_of words ∷ [];
  completed = is_plan _ Number least _ (closed_written _ least _ [] (reached_right done least steps words reached));
}

-- what is viable with one more token is viable
viable_before : (done : List Symbol) (s : Symbol) → IsViable (done ++ s ∷ []) → IsViable done
viable_before done s then = record {
  more = s ∷ then.more;
  steps = then.steps;
  completed = subst (λ (ss : List Symbol). IsPlanText ss then.steps) (append_assoc done (s ∷ []) then.more) then.completed;
}

-- behind a `(` a name can follow
a_name : is_name (97 ∷ []) ≡ true
unfolding is_name
a_name = refl

viable_opened : (done : List Symbol) (least : ℕ) (steps : List StepText) (words : List (List ℕ)) → IsOpened done least steps words → IsViable done
viable_opened done least steps words reached =
    viable_before done (word (97 ∷ [])) (viable_named _ least steps _ (reached_action done least steps words (97 ∷ []) reached a_name))

-- a plan text is viable
viable_whole : (done : List Symbol) (want : Want) (least : ℕ) (steps : List StepText) → IsWritten done want least steps → IsViable done
viable_whole done want least steps w = record {
  more = [];
  steps = steps;
  completed = subst (λ (ss : List Symbol). IsPlanText ss steps) (sym (append-nil done)) (is_plan done want least steps w);
}

viable_by : (want : Want) (done : List Symbol) (least : ℕ) (steps : List StepText) (words : List (List ℕ)) → Reached want done least steps words → IsViable done
viable_by Step done least steps words reached = viable_whole done Step least steps reached.0
viable_by Number done least steps words reached = viable_whole done Number least steps (closed_written done least steps words reached)
viable_by Opening done least steps words reached =
    viable_before done left (viable_opened _ least steps words (reached_opening done least steps words reached))
viable_by Action done least steps words reached = viable_opened done least steps words reached
viable_by Argument done least steps words reached = viable_named done least steps words reached

-- tokens that were read on are viable
pub viable_reached : (done : List Symbol) (r : Reading) → IsReached done r → IsViable done
viable_reached done r reached = viable_by r.want done r.least r.steps r.words reached

-- where a step may begin, the tokens are a plan text
pub plan_reached : (want : Want) (done : List Symbol) (least : ℕ) (steps : List StepText) (words : List (List ℕ)) → IsBetween want → Reached want done least steps words → IsPlanText done steps
plan_reached Step done least steps words between reached = is_plan done Step least steps reached.0
plan_reached Number done least steps words between reached = is_plan done Number least steps (closed_written done least steps words reached)
plan_reached Opening done least steps words between reached = absurd between
plan_reached Action done least steps words between reached = absurd between
plan_reached Argument done least steps words between reached = absurd between

-- a token that is not read on leaves nothing viable
pub not_viable : (done : List Symbol) (r : Reading) (s : Symbol) → run nothing_read done ≡ Some r → read_on r s ≡ None → IsViable (done ++ s ∷ []) → ⊥
not_viable done r s ran stuck viable =
    let plan = run_plan _ _ viable.completed in
    let whole : run nothing_read ((done ++ s ∷ []) ++ viable.more) ≡ Some (reading plan.want plan.least viable.steps []) = plan.ran in
    let first : run nothing_read (done ++ s ∷ []) ≡ None =
    run-append nothing_read done (s ∷ []) ∙ ap (option_and_then (λ next. run next (s ∷ []))) ran ∙ ap (option_and_then (λ next. Some next)) stuck in
    let none : run nothing_read ((done ++ s ∷ []) ++ viable.more) ≡ None =
    run-append nothing_read (done ++ s ∷ []) viable.more ∙ ap (option_and_then (λ next. run next viable.more)) first in
    cc (whole, none)

-- one more token
pub run_more : (done : List Symbol) (r : Reading) (s : Symbol) (next : Reading) → run nothing_read done ≡ Some r → read_on r s ≡ Some next → run nothing_read (done ++ s ∷ []) ≡ Some next
run_more done r s next ran is =
    run-append nothing_read done (s ∷ []) ∙ ap (option_and_then (λ n. run n (s ∷ []))) ran ∙ ap (option_and_then (λ n. Some n)) is

-- tokens behind which a step is begun are no plan text
pub no_plan : (done : List Symbol) (r : Reading) → run nothing_read done ≡ Some r → (IsBetween r.want → ⊥) → (steps : List StepText) → IsPlanText done steps → ⊥
no_plan done r ran begun steps plan =
    let whole = run_plan done steps plan in
    let same : Some r ≡ Some (reading whole.want whole.least steps []) = sym ran ∙ whole.ran in
    let is : r ≡ reading whole.want whole.least steps [] = cc in
    begun (subst IsBetween (sym (ap (λ (x : Reading). x.want) is)) whole.between)
