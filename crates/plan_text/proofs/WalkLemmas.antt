-- Reading on token by token, up to the end of a step.

use Rattle.std.proofs.Common.{◌≡◌, ℕ, ◌+◌, ◌<◌, ◌≤◌, Bool, true, false, List, [], ◌∷◌, ◌++◌, length, map, replicate, Some, None, refl, sym, ap, ◌∙◌, subst, arith, append_assoc, length-append}
use Rattle.std.specs.List.{list_all}
use Rattle.std.proofs.lemmas.Bool.{and_from}
use Rattle.std.proofs.lemmas.List.{append-nil, map-append, length-replicate}
use Rattle.std.proofs.lemmas.List.Folds.{list_all-append}
use Rattle.pddl_words.specs.Words.{is_name, folded}
use Rattle.pddl_tokens.specs.declared.spans.Span.{Span}
use Rattle.pddl_tokens.specs.declared.spans.TokenKind.{TokenKind}
use Rattle.pddl_tokens.specs.declared.spans.TokenKind.TheVariants as k
use Rattle.pddl_tokens.specs.Tokens.{Piece, token, bad}
use Rattle.pddl_tokens.specs.Within.{AreWithin}
use Rattle.strips_task.specs.declared.steps.StepText.{StepText}
use Rattle.strips_task.specs.OpenPlan.{OpenPlan}
use Rattle.strips_task.specs.Steps.{step_of}
use Rattle.plan_text.specs.declared.want.Want.{Want}
use Rattle.plan_text.specs.declared.want.Want.TheVariants.{Step, Number, Opening, Action, Argument}
use Rattle.plan_text.specs.declared.want.Expected.{Expected}
use Rattle.plan_text.specs.declared.walk.Inside.TheVariants as i
use Rattle.plan_text.specs.declared.walk.Opening.TheVariants as o
use Rattle.plan_text.specs.PlanGrammar.{left, right, word, symbol_of}
use Rattle.strips_task.specs.declared.plans.Plan.TheVariants.{Steps}
use Rattle.plan_text.specs.PlanReading.{plan_from, plan_of, read_on, at_end, unreadable}
use Rattle.plan_text.specs.PlanSteps.{IsReady, ReadsBetween}
use Rattle.plan_text.specs.Walks.{Walk, RestsAt, HasPassed, GoesBehind, GoesOn, reading_behind, words_before}
use Rattle.plan_text.specs.WalkFinds.{IsNumberRead, IsOpened, IsStuck, IsOpening, IsClosed, IsBroken, IsInside, ended, reading_inside}
use Rattle.plan_text.specs.Wants.{takes_name}
use Rattle.plan_text.proofs.Runs.{read_name}
use Rattle.plan_text.proofs.Lemmas.{plan_end, plan_bad, plan_goes_on, plan_refused, unnamed_refused}
use Rattle.strips_task.specs.declared.steps.TheConstants.{MOST_STEPS}

-- an open plan of these steps
abbrev pub plan_with : List StepText → OpenPlan
plan_with steps = record { steps = steps; words = [] }

-- what stands between two steps was read up to here
pub record IsOnTheWay (text : List ℕ) (first now : Expected) (count : ℕ) (old rest : List Piece) : Type 0 where
  pub outside : takes_name now.want ≡ false
  pub ready : (steps : List StepText) → length steps ≡ count → IsReady now.want (plan_with steps)
  pub within : AreWithin (length text) rest
  pub shorter : length rest ≤ length old
  pub same :
      (steps : List StepText) → length steps ≡ count
      → plan_from text (reading_behind first.want first.least_stamp steps) old ≡ plan_from text (reading_behind now.want now.least_stamp steps) rest

rests_outside : (want : Want) (count : ℕ) → RestsAt want count → takes_name want ≡ false
rests_outside Step count rests = refl
rests_outside Number count rests = refl
rests_outside Opening count rests = refl
rests_outside Action count rests = absurd rests
rests_outside Argument count rests = absurd rests

rests_ready : (want : Want) (count : ℕ) (steps : List StepText) → RestsAt want count → length steps ≡ count → IsReady want (plan_with steps)
rests_ready Step count steps rests counted = refl
rests_ready Number count steps rests counted = refl
rests_ready Opening count steps rests counted = (refl, omega (arith, rests, counted))
rests_ready Action count steps rests counted = absurd rests
rests_ready Argument count steps rests counted = absurd rests

ready_rests : (want : Want) (count : ℕ) (steps : List StepText) → takes_name want ≡ false → IsReady want (plan_with steps) → length steps ≡ count → RestsAt want count
ready_rests Step count steps outside ready counted = tt
ready_rests Number count steps outside ready counted = tt
ready_rests Opening count steps outside ready counted = omega (arith, ready.1, counted)
ready_rests Action count steps outside ready counted = absurd cc
ready_rests Argument count steps outside ready counted = absurd cc

pub way_starts : (text : List ℕ) (first : Expected) (count : ℕ) (old : List Piece) → AreWithin (length text) old → RestsAt first.want count → IsOnTheWay text first first count old old
way_starts text first count old within rests = record {
  outside = rests_outside first.want count rests;
  ready = λ steps counted. rests_ready first.want count steps rests counted;
  within = within;
  shorter = omega arith;
  same = λ steps counted. refl;
}

pub way_at : (text : List ℕ) (first : Expected) (count : ℕ) (old rest : List Piece) → AreWithin (length text) old → RestsAt first.want count → old ≡ rest → IsOnTheWay text first first count old rest
way_at text first count old rest within rests is = subst (λ (ps : List Piece). IsOnTheWay text first first count old ps) is (way_starts text first count old within rests)

pub way_rests : (text : List ℕ) (first now : Expected) (count : ℕ) (old rest : List Piece) → IsOnTheWay text first now count old rest → RestsAt now.want count
way_rests text first now count old rest way =
    let some : List StepText = replicate count (step_of []) in
    let sized : length some ≡ count = length-replicate count (step_of []) in
    ready_rests now.want count some way.outside (way.ready some sized) sized

-- where a name may come and no word is open, a step was just opened
just_opened : (want : Want) (steps : List StepText) → takes_name want ≡ true → IsReady want (plan_with steps) → (want ≡ Action) × (length steps < MOST_STEPS)
just_opened Step steps takes ready = absurd cc
just_opened Number steps takes ready = absurd cc
just_opened Opening steps takes ready = absurd cc
just_opened Action steps takes ready = (refl, ready.1)
just_opened Argument steps takes ready = absurd (let none = ready.0 in omega arith)

pub way_opens : (text : List ℕ) (first now next : Expected) (count : ℕ) (old rest : List Piece) (kind : TokenKind) (span : Span) (bytes : List ℕ) → IsOnTheWay text first now count old (token kind span bytes ∷ rest) → ReadsBetween (Some next) now count (symbol_of kind bytes) → takes_name next.want ≡ true → IsOpened text first count next.least_stamp old rest
way_opens text first now next count old rest kind span bytes way reads takes =
    let some : List StepText = replicate count (step_of []) in
    let sized : length some ≡ count = length-replicate count (step_of []) in
    let (is, few) = just_opened next.want some takes (reads (plan_with some) sized (way.ready some sized)).1 in
    record {
      room = omega (arith, few, sized);
      shorter = omega (arith, way.shorter);
      within = way.within.1;
      same = λ steps counted.
          way.same steps counted
          ∙ plan_goes_on text (reading_behind now.want now.least_stamp steps) kind span bytes rest _ (reads (plan_with steps) counted (way.ready steps counted)).0
          ∙ ap (λ (want : Want). plan_from text (reading_behind want next.least_stamp steps) rest) is;
    }

pub way_refused : (text : List ℕ) (first now : Expected) (count : ℕ) (old rest : List Piece) (kind : TokenKind) (span : Span) (bytes : List ℕ) → IsOnTheWay text first now count old (token kind span bytes ∷ rest) → ReadsBetween None now count (symbol_of kind bytes) → IsStuck text first count span.start old
way_refused text first now count old rest kind span bytes way reads = record {
  within = omega (arith, way.within.0.0, way.within.0.1);
  same = λ steps counted.
      way.same steps counted
      ∙ plan_refused text (reading_behind now.want now.least_stamp steps) kind span bytes rest (reads (plan_with steps) counted (way.ready steps counted));
}

pub way_bad : (text : List ℕ) (first now : Expected) (count at : ℕ) (old : List Piece) → IsOnTheWay text first now count old (bad at ∷ []) → IsStuck text first count at old
way_bad text first now count at old way = record {
  within = omega (arith, way.within.0);
  same = λ steps counted. way.same steps counted ∙ plan_bad text (reading_behind now.want now.least_stamp steps) at [];
}

end_by : (want : Want) (text : List ℕ) (first : Expected) (count : ℕ) (old new : List Piece) → takes_name want ≡ false → ((steps : List StepText) → length steps ≡ count → plan_from text (reading_behind first.want first.least_stamp steps) old ≡ at_end want text steps) → IsOpening (ended want (length text)) text first count old new
end_by Step text first count old new outside same = same
end_by Number text first count old new outside same = same
end_by Opening text first count old new outside same = record { within = omega arith; same = same }
end_by Action text first count old new outside same = absurd cc
end_by Argument text first count old new outside same = absurd cc

pub way_ends : (text : List ℕ) (first now : Expected) (count : ℕ) (old new : List Piece) → IsOnTheWay text first now count old [] → IsOpening (ended now.want (length text)) text first count old new
way_ends text first now count old new way =
    end_by now.want text first count old new way.outside (λ steps counted. way.same steps counted ∙ plan_end text (reading_behind now.want now.least_stamp steps))

ends_by : (want : Want) (text : List ℕ) (steps : List StepText) (count : ℕ) → RestsAt want count → ended want (length text) ≡ o.End → at_end want text steps ≡ Steps steps
ends_by Step text steps count rests ends = refl
ends_by Number text steps count rests ends = refl
ends_by Opening text steps count rests ends = absurd cc
ends_by Action text steps count rests ends = absurd rests
ends_by Argument text steps count rests ends = absurd rests

-- where no piece is left and the text may end, the plan is that of the steps that were passed
pub ends_here : (walk : Walk) → ended walk.want (length walk.text) ≡ o.End → walk.rest ≡ [] → (steps : List StepText) → HasPassed walk steps → plan_of walk.text ≡ Steps steps
ends_here walk ends none steps passed =
    let reading = reading_behind walk.want walk.least steps in
    sym passed.same ∙ ap (plan_from walk.text reading) none ∙ plan_end walk.text reading ∙ ends_by walk.want walk.text steps walk.count passed.rests ends

-- the words of an open step were read up to here
pub record IsInStep (text : List ℕ) (some : Bool) (old rest : List Piece) : Type 0 where
  pub read : List (List ℕ)
  pub split : words_before old ≡ read ++ words_before rest
  pub named : some ≡ true → 0 < length read
  pub names : list_all is_name read ≡ true
  pub within : AreWithin (length text) rest
  pub shorter : length rest ≤ length old
  pub same :
      (least : ℕ) (steps : List StepText)
      → plan_from text (reading_behind Action least steps) old ≡ plan_from text (reading_inside some least steps (map folded read)) rest

pub step_starts : (text : List ℕ) (old : List Piece) → AreWithin (length text) old → IsInStep text false old old
step_starts text old within = record {
  read = [];
  split = refl;
  named = λ some. absurd cc;
  names = refl;
  within = within;
  shorter = omega arith;
  same = λ least steps. refl;
}

name_inside : (some : Bool) (least : ℕ) (steps : List StepText) (read : List (List ℕ)) (bytes : List ℕ) → is_name bytes ≡ true → read_on (reading_inside some least steps read) (symbol_of k.Word bytes) ≡ Some (reading_inside true least steps (read ++ folded bytes ∷ []))
unfolding read_on
name_inside true least steps read bytes is = read_name (reading_inside true least steps read) bytes is
name_inside false least steps read bytes is = read_name (reading_inside false least steps read) bytes is

goes_on : (text : List ℕ) (some : Bool) (old rest : List Piece) (span : Span) (bytes : List ℕ) → IsInStep text some old (token k.Word span bytes ∷ rest) → is_name bytes ≡ true → IsInStep text true old rest
goes_on text some old rest span bytes before is = record {
  read = before.read ++ bytes ∷ [];
  split = before.split ∙ sym (append_assoc before.read (bytes ∷ []) (words_before rest));
  named = λ t. omega (arith, length-append before.read (bytes ∷ []));
  names = list_all-append is_name before.read (bytes ∷ []) ∙ and_from _ _ before.names (and_from _ _ is refl);
  within = before.within.1;
  shorter = omega (arith, before.shorter);
  same = λ least steps.
      before.same least steps
      ∙ plan_goes_on text (reading_inside some least steps (map folded before.read)) k.Word span bytes rest _ (name_inside some least steps (map folded before.read) bytes is)
      ∙ ap (λ (words : List (List ℕ)). plan_from text (reading_inside true least steps words) rest) (sym (map-append folded before.read (bytes ∷ [])));
}

pub step_goes_on : (text : List ℕ) (some : Bool) (old rest : List Piece) (kind : TokenKind) (span : Span) (bytes : List ℕ) → IsInStep text some old (token kind span bytes ∷ rest) → (kind ≡ k.Word) × (is_name bytes ≡ true) → IsInStep text true old rest
step_goes_on text some old rest kind span bytes before is = goes_on text some old rest span bytes (subst (λ (t : TokenKind). IsInStep text some old (token t span bytes ∷ rest)) is.0 before) is.1

closes : (text : List ℕ) (old rest : List Piece) (span : Span) (bytes : List ℕ) → IsInStep text true old (token k.Right span bytes ∷ rest) → IsClosed text old rest
unfolding read_on
closes text old rest span bytes before =
    let all : before.read ≡ words_before old = sym (append-nil before.read) ∙ sym before.split in
    record {
      some = subst (λ (words : List (List ℕ)). 0 < length words) all (before.named refl);
      names = subst (λ (words : List (List ℕ)). list_all is_name words ≡ true) all before.names;
      shorter = omega (arith, before.shorter);
      within = before.within.1;
      same = λ least steps.
          before.same least steps
          ∙ plan_goes_on text (reading_inside true least steps (map folded before.read)) k.Right span bytes rest _ refl
          ∙ ap (λ (words : List (List ℕ)). plan_from text (reading_behind Number least (steps ++ step_of (map folded words) ∷ [])) rest) all;
    }

pub step_closes : (text : List ℕ) (some : Bool) (old rest : List Piece) (kind : TokenKind) (span : Span) (bytes : List ℕ) → IsInStep text some old (token kind span bytes ∷ rest) → (kind ≡ k.Right) × (some ≡ true) → IsClosed text old rest
step_closes text some old rest kind span bytes before is =
    closes text old rest span bytes (subst (λ (s : Bool). IsInStep text s old (token k.Right span bytes ∷ rest)) is.1 (subst (λ (t : TokenKind). IsInStep text some old (token t span bytes ∷ rest)) is.0 before))

pub step_refused : (text : List ℕ) (some : Bool) (old rest : List Piece) (kind : TokenKind) (span : Span) (bytes : List ℕ) → IsInStep text some old (token kind span bytes ∷ rest) → ((least : ℕ) (steps : List StepText) (words : List (List ℕ)) → read_on (reading_inside some least steps words) (symbol_of kind bytes) ≡ None) → IsBroken text span.start old
step_refused text some old rest kind span bytes before refused = record {
  within = omega (arith, before.within.0.0, before.within.0.1);
  same = λ least steps. before.same least steps ∙ plan_refused text (reading_inside some least steps (map folded before.read)) kind span bytes rest (refused least steps (map folded before.read));
}

-- tokens that an open step does not take
no_left_inside : (some : Bool) (least : ℕ) (steps : List StepText) (words : List (List ℕ)) → read_on (reading_inside some least steps words) left ≡ None
unfolding read_on
no_left_inside true least steps words = refl
no_left_inside false least steps words = refl

pub left_inside : (some : Bool) (kind : TokenKind) (text : List ℕ) → kind ≡ k.Left → IsInside i.Fault some kind text
left_inside some kind text is = subst (λ (t : TokenKind). IsInside i.Fault some t text) (sym is) (no_left_inside some)

no_right_inside : (some : Bool) (least : ℕ) (steps : List StepText) (words : List (List ℕ)) → some ≡ false → read_on (reading_inside some least steps words) right ≡ None
unfolding read_on
no_right_inside true least steps words none = absurd cc
no_right_inside false least steps words none = refl

pub right_inside : (some : Bool) (kind : TokenKind) (text : List ℕ) → kind ≡ k.Right → some ≡ false → IsInside i.Fault some kind text
right_inside some kind text is none = subst (λ (t : TokenKind). IsInside i.Fault some t text) (sym is) (λ least steps words. no_right_inside some least steps words none)

no_word_inside : (some : Bool) (least : ℕ) (steps : List StepText) (words : List (List ℕ)) (text : List ℕ) → is_name text ≡ false → read_on (reading_inside some least steps words) (word text) ≡ None
unfolding read_on
no_word_inside true least steps words text other = unnamed_refused (reading_inside true least steps words) text other
no_word_inside false least steps words text other = unnamed_refused (reading_inside false least steps words) text other

pub word_inside : (some : Bool) (kind : TokenKind) (text : List ℕ) → kind ≡ k.Word → is_name text ≡ false → IsInside i.Fault some kind text
word_inside some kind text is other = subst (λ (t : TokenKind). IsInside i.Fault some t text) (sym is) (λ least steps words. no_word_inside some least steps words text other)

pub step_bad : (text : List ℕ) (some : Bool) (at : ℕ) (old : List Piece) → IsInStep text some old (bad at ∷ []) → IsBroken text at old
step_bad text some at old before = record {
  within = omega (arith, before.within.0);
  same = λ least steps. before.same least steps ∙ plan_bad text (reading_inside some least steps (map folded before.read)) at [];
}

stays_open : (some : Bool) (text : List ℕ) (least : ℕ) (steps : List StepText) (words : List (List ℕ)) → plan_from text (reading_inside some least steps words) [] ≡ unreadable text (length text)
stays_open true text least steps words = plan_end text (reading_inside true least steps words)
stays_open false text least steps words = plan_end text (reading_inside false least steps words)

pub step_ends : (text : List ℕ) (some : Bool) (old : List Piece) → IsInStep text some old [] → IsBroken text (length text) old
step_ends text some old before = record {
  within = omega arith;
  same = λ least steps. before.same least steps ∙ stays_open some text least steps (map folded before.read);
}

-- an open step that was closed is passed
pub passes_step : (old : Walk) (least : ℕ) (open_rest rest : List Piece) → IsOpened old.text (record { want = old.want; least_stamp = old.least }) old.count least old.rest open_rest → IsClosed old.text open_rest rest → GoesBehind old (record { text = old.text; rest = rest; want = Number; least = least; count = old.count + 1 }) (step_of (map folded (words_before open_rest)))
passes_step old least open_rest rest opened closed = record {
  text = refl;
  shorter = omega (arith, opened.shorter, closed.shorter);
  passed = λ steps before. record {
    counted = omega (arith, before.counted, length-append steps (step_of (map folded (words_before open_rest)) ∷ []));
    few = omega (arith, opened.room);
    rests = tt;
    same = sym (closed.same least steps) ∙ sym (opened.same steps before.counted) ∙ before.same;
  };
}

-- a number or a stamp that was read on leaves the walk where it may rest
pub number_rests : (now next : Expected) (count : ℕ) (kind : TokenKind) (bytes : List ℕ) → RestsAt now.want count → ReadsBetween (Some next) now count (symbol_of kind bytes) → takes_name next.want ≡ false → RestsAt next.want count
number_rests now next count kind bytes rests reads outside =
    let some : List StepText = replicate count (step_of []) in
    let sized : length some ≡ count = length-replicate count (step_of []) in
    ready_rests next.want count some outside (reads (plan_with some) sized (rests_ready now.want count some rests sized)).1 sized

pub rest_within : (size : ℕ) (old rest : List Piece) (kind : TokenKind) (span : Span) (bytes : List ℕ) → old ≡ token kind span bytes ∷ rest → AreWithin size old → AreWithin size rest
rest_within size old rest kind span bytes first within = (subst (AreWithin size) first within).1

pub number_read : (text : List ℕ) (now next : Expected) (count : ℕ) (old rest : List Piece) (kind : TokenKind) (span : Span) (bytes : List ℕ) → old ≡ token kind span bytes ∷ rest → AreWithin (length text) old → RestsAt now.want count → ReadsBetween (Some next) now count (symbol_of kind bytes) → takes_name next.want ≡ false → IsNumberRead text now count next old rest
number_read text now next count old rest kind span bytes first within rests reads outside = record {
  rests = number_rests now next count kind bytes rests reads outside;
  shorter = omega (arith, ap (λ (ps : List Piece). length ps) first);
  within = rest_within (length text) old rest kind span bytes first within;
  same = λ steps counted.
      ap (plan_from text (reading_behind now.want now.least_stamp steps)) first
      ∙ plan_goes_on text (reading_behind now.want now.least_stamp steps) kind span bytes rest _ (reads (plan_with steps) counted (rests_ready now.want count steps rests counted)).0;
}

-- a walk at these pieces goes on behind a stamp or a number
pub goes_on_behind : (old : Walk) (text : List ℕ) (now next : Expected) (count : ℕ) (pieces rest : List Piece) → record { text = text; rest = pieces; want = now.want; least = now.least_stamp; count = count } ≡ old → IsNumberRead text now count next pieces rest → GoesOn old (record { text = text; rest = rest; want = next.want; least = next.least_stamp; count = count }) × (length rest < length old.rest)
goes_on_behind old text now next count pieces rest is read =
    let behind : Walk = record { text = text; rest = rest; want = next.want; least = next.least_stamp; count = count } in
    subst (λ (walk : Walk). GoesOn walk behind × (length rest < length walk.rest)) is (
      record {
        text = refl;
        passed = λ steps passed. record { counted = passed.counted; few = passed.few; rests = read.rests; same = sym (read.same steps passed.counted) ∙ passed.same };
      },
      read.shorter,
    )
