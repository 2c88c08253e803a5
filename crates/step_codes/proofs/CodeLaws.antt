-- Codes: what they ask for and do, by the numbers of atoms, and what growth leaves of it.

use Rattle.std.proofs.Common.{◌≡◌, ◌==◌, ◌<◌, ◌+◌, ◌↔◌, ℕ, Bool, true, false, not, cond, List, [], ◌∷◌, ◌++◌, Option, Some, None, All, IsTrue, refl, ap, sym, ◌∙◌, length, map, get_or, append-nil, arith, tests}
use Rattle.std.specs.Option.{option_or}
use Rattle.std.proofs.Math.Bool.{not-not}
use Rattle.std.proofs.lemmas.List.Elements.{All-nil, All-cons, All-push, All-pop}
use Rattle.bit_rows.specs.Rows.{row_has}
use Rattle.formulas.specs.declared.atoms.Atom.{Atom}
use Rattle.formulas.specs.declared.terms.Pattern.{Pattern}
use Rattle.formulas.specs.Grounding.{with_objects}
use Rattle.formulas.specs.Tree.{Tree, atom}
use Rattle.strips_task.specs.declared.actions.Action.{Action}
use Rattle.strips_task.specs.declared.steps.StepText.{StepText}
use Rattle.strips_task.specs.declared.tasks.TaskParts.{TaskParts}
use Rattle.step_codes.specs.declared.programs.Instruction.{Instruction}
use Rattle.step_codes.specs.Codes.{Code, AsksFor, IsCode, asking_more, numbers_by}
use Rattle.strips_judge.specs.NumberedState.{AreNumbers, Numbered, KeepsNumbers, bit_of, state_of}
use Rattle.strips_judge.specs.Grounding.{ground}
use Rattle.strips_judge.specs.Step.{deletes, deletes_by, adds, adds_by, action_named, objects_named, fault_by, hindrance, after, after_by, precondition, missing, missing_why}
use Rattle.strips_task.specs.AtomNumbers.{number_in}
use Rattle.step_codes.specs.Programs.{AreBitsOf, IsNumber, numbers_changed}
use Rattle.strips_judge.specs.State.{State, holds, after_effects, without, with_all}
use Rattle.strips_judge.specs.Statics.{KeepsStatics}
use Rattle.strips_judge.proofs.Applicable.{missing_from_satisfied}
use Rattle.strips_judge.proofs.AtomNumbers.{numbers_kept, numbers_more}
use Rattle.strips_task.proofs.Numbering.{number_in-lt}
use Rattle.strips_judge.proofs.StepLaws.{grounded_holds}

-- the numbers of these atoms are numbers of atoms
pub are_numbers : (atoms ground : List Atom) (numbers : List ℕ) → AreNumbers atoms ground numbers → All (IsNumber atoms) numbers
are_numbers atoms [] [] e = All-nil (IsNumber atoms)
are_numbers atoms [] (n ∷ ns) e = cc
are_numbers atoms (a ∷ more) [] e = cc
are_numbers atoms (a ∷ more) (n ∷ ns) e =
    let here : number_in atoms a ≡ Some n = cc in
    let rest : map (number_in atoms) more ≡ map Some ns = cc in
    All-cons (IsNumber atoms) n ns (a, here) (are_numbers atoms more ns rest)

-- the numbers that a code adds are below how many there are, whatever the bits are
pub added_within : (parts : TaskParts) (atoms : List Atom) (step : StepText) (code : Code) → IsCode parts atoms step code → (bits : ℕ → Bool) → All (λ n. n < length atoms) (numbers_by bits true code)
added_within parts atoms step code is bits = λ i d lt. let found = is.within bits i d lt in number_in-lt atoms found.0 (get_or (numbers_by bits true code) i d) found.1

-- a list is empty if its length says so
pub nothing_in : {X : Type 0} (xs : List X) (is_empty : Bool) → is_empty ≡ (length xs == 0) → is_empty ≡ true → xs ≡ []
nothing_in [] is_empty e full = refl
nothing_in (x ∷ xs) is_empty e empty = absurd (grind (arith, tests, sym e ∙ empty))

-- the bits of a state
pub bits_of_state : (kept : Numbered) → AreBitsOf kept.atoms (state_of kept) (row_has kept.bits)
bits_of_state kept = λ atom number e. sym (ap (bit_of kept.bits) e)

-- without a program, a code changes the same atoms in every state
pub without_program : (code : Code) → code.program ≡ [] → (bits : ℕ → Bool) (truth : Bool) → numbers_by bits truth code ≡ cond truth code.added code.deleted
without_program code none bits true = ap (λ program. code.added ++ numbers_changed bits true 0 program) none ∙ append-nil code.added
without_program code none bits false = ap (λ program. code.deleted ++ numbers_changed bits false 0 program) none ∙ append-nil code.deleted

-- growth leaves what a code asks for, and codes
pub asks_kept : (parts : TaskParts) (old new : List Atom) → KeepsNumbers old new → (conditions : List Tree) (code : Code) → AsksFor parts old conditions code → AsksFor parts new conditions code
asks_kept parts old new keep conditions code h =
    record {
      trues = h.trues;
      falses = h.falses;
      needed = numbers_kept old new keep h.trues code.needed h.needed;
      forbidden = numbers_kept old new keep h.falses code.forbidden h.forbidden;
      exactly = h.exactly;
    }

-- what a code asks for is not what it does
pub asks_whatever : (parts : TaskParts) (atoms : List Atom) (conditions : List Tree) (code : Code) (deleted added : List ℕ) (program : List Instruction) → AsksFor parts atoms conditions code
    → AsksFor parts atoms conditions (record code { deleted = deleted; added = added; program = program })
asks_whatever parts atoms conditions code deleted added program h =
    record { trues = h.trues; falses = h.falses; needed = h.needed; forbidden = h.forbidden; exactly = h.exactly }

pub code_kept : (parts : TaskParts) (old new : List Atom) → KeepsNumbers old new → (step : StepText) (code : Code) → IsCode parts old step code → IsCode parts new step code
code_kept parts old new keep step code h =
    record {
      faultless = h.faultless;
      asks = asks_kept parts old new keep (precondition parts step) code h.asks;
      deleted = λ state bits stays are. numbers_kept old new keep (deletes parts state step) (numbers_by bits false code) (h.deleted state bits stays (λ atom number e. are atom number (keep atom number e)));
      added = λ state bits stays are. numbers_kept old new keep (adds parts state step) (numbers_by bits true code) (h.added state bits stays (λ atom number e. are atom number (keep atom number e)));
      within = λ bits i d lt. let found = h.within bits i d lt in (found.0, keep found.0 (get_or (numbers_by bits true code) i d) found.1);
    }

-- a code that asks for nothing
pub asks_nothing : (parts : TaskParts) (atoms : List Atom) (code : Code) → code.needed ≡ [] → code.forbidden ≡ [] → AsksFor parts atoms [] code
asks_nothing parts atoms code none nor =
    record {
      trues = [];
      falses = [];
      needed = sym (ap (map Some) none);
      forbidden = sym (ap (map Some) nor);
      exactly = λ state stays. (λ h. All-nil (λ tree. IsTrue (holds parts state [] tree)), λ h. (All-nil (λ atom. state atom ≡ true), All-nil (λ atom. state atom ≡ false)));
    }

-- all of these, and one more
pub all_more : {A : Type 0} (P : A → Type 0) (xs : List A) (x : A) → (All P xs × P x) ↔ All P (xs ++ x ∷ [])
all_more P xs x = (λ h. All-push P xs x h.0 h.1, λ h. All-pop P (xs ++ x ∷ []) xs (Some x) refl h)

module _ (parts : TaskParts) (old new : List Atom) (keep : KeepsNumbers old new) (before : List Tree) (more : Tree) (code : Code) (h : AsksFor parts old before code) where
  abbrev Holds : State → Tree → Type 0
  Holds state tree = IsTrue (holds parts state [] tree)

  -- a condition more that holds exactly where an atom is true
  pub asks_true : (fact : Atom) (number : ℕ) → number_in new fact ≡ Some number → ((state : State) → holds parts state [] more ≡ state fact)
      → AsksFor parts new (before ++ more ∷ []) (asking_more code true number)
  asks_true fact number here means =
      record {
        trues = h.trues ++ fact ∷ [];
        falses = h.falses;
        needed = numbers_more old new keep h.trues (h.trues ++ fact ∷ []) code.needed (code.needed ++ number ∷ []) fact number refl refl h.needed here;
        forbidden = numbers_kept old new keep h.falses code.forbidden h.forbidden;
        exactly = λ state stays. (
          λ given. let parted = (all_more (λ a. state a ≡ true) h.trues fact).1 given.0 in
              (all_more (Holds state) before more).0 ((h.exactly state stays).0 (parted.0, given.1), means state ∙ parted.1),
          λ holding. let parted = (all_more (Holds state) before more).1 holding in
              let so_far = (h.exactly state stays).1 parted.0 in
              ((all_more (λ a. state a ≡ true) h.trues fact).0 (so_far.0, sym (means state) ∙ parted.1), so_far.1),
        );
      }

  -- a condition more that holds exactly where an atom is false
  pub asks_false : (fact : Atom) (number : ℕ) → number_in new fact ≡ Some number → ((state : State) → holds parts state [] more ≡ not (state fact))
      → AsksFor parts new (before ++ more ∷ []) (asking_more code false number)
  asks_false fact number here means =
      record {
        trues = h.trues;
        falses = h.falses ++ fact ∷ [];
        needed = numbers_kept old new keep h.trues code.needed h.needed;
        forbidden = numbers_more old new keep h.falses (h.falses ++ fact ∷ []) code.forbidden (code.forbidden ++ number ∷ []) fact number refl refl h.forbidden here;
        exactly = λ state stays. (
          λ given. let parted = (all_more (λ a. state a ≡ false) h.falses fact).1 given.1 in
              (all_more (Holds state) before more).0 ((h.exactly state stays).0 (given.0, parted.0), means state ∙ ap not parted.1),
          λ holding. let parted = (all_more (Holds state) before more).1 holding in
              let so_far = (h.exactly state stays).1 parted.0 in
              (so_far.0, (all_more (λ a. state a ≡ false) h.falses fact).0 (so_far.1, sym (not-not (state fact)) ∙ ap not (sym (means state) ∙ parted.1))),
        );
      }

  -- a condition more that holds in every state of the task
  asks_always : ((state : State) → KeepsStatics parts state → holds parts state [] more ≡ true) → AsksFor parts new (before ++ more ∷ []) code
  asks_always always =
      record {
        trues = h.trues;
        falses = h.falses;
        needed = numbers_kept old new keep h.trues code.needed h.needed;
        forbidden = numbers_kept old new keep h.falses code.forbidden h.forbidden;
        exactly = λ state stays. (
          λ given. (all_more (Holds state) before more).0 ((h.exactly state stays).0 given, always state stays),
          λ holding. (h.exactly state stays).1 ((all_more (Holds state) before more).1 holding).0,
        );
      }

-- a literal more
pub asks_literal : (parts : TaskParts) (old new : List Atom) → KeepsNumbers old new → (before : List Tree) (code : Code) (objects : List ℕ) (tree : Tree) (positive : Bool) (pattern : Pattern) (number : ℕ)
    → tree ≡ atom positive pattern → number_in new (ground objects pattern) ≡ Some number
    → AsksFor parts old before code → AsksFor parts new (before ++ with_objects objects [] tree ∷ []) (asking_more code positive number)
asks_literal parts old new keep before code objects tree true pattern number is here h =
    asks_true parts old new keep before (with_objects objects [] tree) code h (ground objects pattern) number here
    (λ state. grounded_holds parts state objects tree ∙ ap (holds parts state objects) is)
asks_literal parts old new keep before code objects tree false pattern number is here h =
    asks_false parts old new keep before (with_objects objects [] tree) code h (ground objects pattern) number here
    (λ state. grounded_holds parts state objects tree ∙ ap (holds parts state objects) is)

-- one more that holds in every state of the task
pub asks_lasting : (parts : TaskParts) (atoms : List Atom) (before : List Tree) (code : Code) (objects : List ℕ) (tree : Tree)
    → ((state : State) → KeepsStatics parts state → holds parts state objects tree ≡ true) → AsksFor parts atoms before code → AsksFor parts atoms (before ++ with_objects objects [] tree ∷ []) code
asks_lasting parts atoms before code objects tree lasts h =
    asks_always parts atoms atoms (λ a n e. e) before (with_objects objects [] tree) code h (λ state stays. grounded_holds parts state objects tree ∙ lasts state stays)

module _ (parts : TaskParts) (atoms : List Atom) (state : State) (step : StepText) (code : Code) (stays : KeepsStatics parts state) (is : IsCode parts atoms step code) where
  -- a step with a code is not hindered where all is as the code asks
  pub code_hinders_not : ((ground : List Atom) → AreNumbers atoms ground code.needed → All (λ atom. state atom ≡ true) ground)
      → ((ground : List Atom) → AreNumbers atoms ground code.forbidden → All (λ atom. state atom ≡ false) ground) → hindrance parts state step ≡ None
  code_hinders_not needs forbids =
      let conditions = precondition parts step in
      ap (λ o. option_or o (missing_why (missing parts state conditions))) is.faultless
      ∙ ap missing_why (missing_from_satisfied parts state conditions ((is.asks.exactly state stays).0 (needs is.asks.trues is.asks.needed, forbids is.asks.falses is.asks.forbidden)))

  -- and leads to the state after its deletes and adds
  pub code_leads : (middle next : State) → middle ≡ without state (deletes parts state step) → next ≡ with_all middle (adds parts state step) → next ≡ after parts state step
  code_leads middle next cleared set = set ∙ ap (λ s. with_all s (adds parts state step)) cleared ∙ by (action_named parts step.action) is.faultless
    where
      by : (o : Option Action) → fault_by parts o step.args ≡ None
          → after_effects state (deletes_by parts (objects_named parts step.args) state o) (adds_by parts (objects_named parts step.args) state o) ≡ after_by parts (objects_named parts step.args) state o
      by None e = cc
      by (Some action) e = refl
