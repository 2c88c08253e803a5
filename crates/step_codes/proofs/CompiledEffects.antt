-- What programs find when instructions are added to them.

use Rattle.std.proofs.Common.{◌≡◌, Result, Ok, Err, OnOk, ℕ, zero, suc, ◌+◌, ◌<◌, Bool, true, false, cond, ◌&&◌, List, [], ◌∷◌, ◌++◌, Some, All, refl, sym, ap, ◌∙◌, subst, take, get_or, length, map, append-nil, append_assoc, arith}
use Rattle.std.proofs.Math.Seq.{drop-length, drop-append_seam, take-append_seam}
use Rattle.std.proofs.Math.Bool.{and-false}
use Rattle.std.proofs.lemmas.List.Folds.{list_all_more}
use Rattle.std.proofs.lemmas.List.{map-append}
use Rattle.std.proofs.lemmas.List.Elements.{All-append, All-cons, All-nil}
use Rattle.std.specs.Bool.{beq}
use Rattle.std.specs.List.{flat_map, insert, list_all}
use Rattle.formulas.specs.declared.atoms.Atom.{Atom}
use Rattle.formulas.specs.declared.terms.Pattern.{Pattern}
use Rattle.formulas.specs.declared.variables.VariableGroup.{VariableGroup}
use Rattle.formulas.specs.EffectTree.{EffectTree, change, conditional, universal}
use Rattle.formulas.specs.Meaning.{atom_of, signed}
use Rattle.formulas.specs.Tree.{Tree}
use Rattle.formulas.specs.Variables.{variable_types, extensions}
use Rattle.strips_task.specs.AtomNumbers.{number_in}
use Rattle.strips_task.specs.declared.tasks.TaskParts.{TaskParts}
use Rattle.step_codes.specs.declared.programs.Instruction.{Instruction}
use Rattle.step_codes.specs.declared.programs.Instruction.TheVariants.{Test, Change}
use Rattle.strips_judge.specs.Choices.{holds_bound}
use Rattle.strips_judge.specs.NumberedState.{AreNumbers, KeepsNumbers}
use Rattle.step_codes.specs.Compiling.{FoundIn, Finds, FindsMore, where_it_holds}
use Rattle.strips_judge.specs.Gathered.{and_then, changed_alone, effect_found, effects_found}
use Rattle.step_codes.specs.Programs.{AreBitsOf, IsNumber, numbers_changed}
use Rattle.strips_judge.specs.State.{State, objects_of}
use Rattle.strips_judge.specs.Statics.{KeepsStatics}
use Rattle.strips_judge.specs.Step.{changed_by}
use Rattle.strips_judge.proofs.AtomNumbers.{numbers_kept}
use Rattle.step_codes.proofs.Instructions.{skipped}

-- the numbers of two lists of atoms, one behind the other
pub numbers_both : (atoms these those : List Atom) (numbers others : List ℕ) → AreNumbers atoms these numbers → AreNumbers atoms those others → AreNumbers atoms (these ++ those) (numbers ++ others)
numbers_both atoms these those numbers others h k =
    map-append (number_in atoms) these those ∙ (λ j. h j ++ k j) ∙ sym (map-append Some numbers others)

-- bits that say what is true say it also where fewer atoms have numbers
pub bits_before : (old new : List Atom) → KeepsNumbers old new → (state : State) (bits : ℕ → Bool) → AreBitsOf new state bits → AreBitsOf old state bits
bits_before old new keep state bits are = λ atom number e. are atom number (keep atom number e)

-- numbers of atoms are still that where more atoms have numbers
pub numbers_stay : (old new : List Atom) → KeepsNumbers old new → (numbers : List ℕ) → All (IsNumber old) numbers → All (IsNumber new) numbers
numbers_stay old new keep numbers h = λ i d lt. let found = h i d lt in (found.0, keep found.0 (get_or numbers i d) found.1)

-- a fact that holds whether an outcome is a success or not
pub ok_known : {T E P : Type 0} (outcome : Result T E) → P → OnOk outcome P
ok_known (Ok value) p = p
ok_known (Err e) p = tt

-- nothing more is found
pub more_nothing : {parts : TaskParts} (atoms : List Atom) (program : List Instruction) (found : FoundIn) → ((state : State) → KeepsStatics parts state → (truth : Bool) → found state truth ≡ []) → FindsMore parts atoms program program found
more_nothing atoms program found none =
    record {
      more = [];
      is = sym (append-nil program);
      finds = record {
        numbers = λ state bits stays are truth. ap (map (number_in atoms)) (none state stays truth);
        within = λ bits truth. All-nil (IsNumber atoms);
        goes_on = λ bits truth rest. refl;
      };
    }

-- the same in other words, in states in which static atoms are as at the start
pub more_where : {parts : TaskParts} (atoms : List Atom) (old new : List Instruction) (found same : FoundIn) → ((state : State) → KeepsStatics parts state → (truth : Bool) → found state truth ≡ same state truth)
    → FindsMore parts atoms old new found → FindsMore parts atoms old new same
more_where atoms old new found same is h =
    record {
      more = h.more;
      is = h.is;
      finds = record {
        numbers = λ state bits stays are truth. subst (λ l. AreNumbers atoms l (numbers_changed bits truth 0 h.more)) (is state stays truth) (h.finds.numbers state bits stays are truth);
        within = h.finds.within;
        goes_on = h.finds.goes_on;
      };
    }

-- the same in other words
pub more_as : {parts : TaskParts} (atoms : List Atom) (old new : List Instruction) (found same : FoundIn) → ((state : State) (truth : Bool) → found state truth ≡ same state truth)
    → FindsMore parts atoms old new found → FindsMore parts atoms old new same
more_as atoms old new found same is h = more_where atoms old new found same (λ state stays truth. is state truth) h

-- the same while atoms get numbers
abbrev pub more_kept : {parts : TaskParts} (old_atoms new_atoms : List Atom) → KeepsNumbers old_atoms new_atoms → (old new : List Instruction) (found : FoundIn) → FindsMore parts old_atoms old new found → FindsMore parts new_atoms old new found
more_kept old_atoms new_atoms keep old new found h =
    record {
      more = h.more;
      is = h.is;
      finds = record {
        numbers = λ state bits stays are truth.
            numbers_kept old_atoms new_atoms keep (found state truth) (numbers_changed bits truth 0 h.more) (h.finds.numbers state bits stays (bits_before old_atoms new_atoms keep state bits are) truth);
        within = λ bits truth. numbers_stay old_atoms new_atoms keep (numbers_changed bits truth 0 h.more) (h.finds.within bits truth);
        goes_on = h.finds.goes_on;
      };
    }

-- first one thing is found and then another
pub more_both : {parts : TaskParts} (first second : List Atom) → KeepsNumbers first second → (old between new : List Instruction) (found more : FoundIn)
    → FindsMore parts first old between found → FindsMore parts second between new more → FindsMore parts second old new (λ state. and_then (found state) (more state))
more_both first second keep old between new found more h k =
    let first_half = (more_kept first second keep old between found h).finds in
    record {
      more = h.more ++ k.more;
      is = k.is ∙ ap (λ l. l ++ k.more) h.is ∙ append_assoc old h.more k.more;
      finds = record {
        numbers = λ state bits stays are truth.
            subst (AreNumbers second (found state truth ++ more state truth)) (sym (h.finds.goes_on bits truth k.more))
            (numbers_both second (found state truth) (more state truth) (numbers_changed bits truth 0 h.more) (numbers_changed bits truth 0 k.more) (first_half.numbers state bits stays are truth) (k.finds.numbers state bits stays are truth));
        within = λ bits truth.
            subst (All (IsNumber second)) (sym (h.finds.goes_on bits truth k.more))
            (All-append (IsNumber second) (numbers_changed bits truth 0 h.more) (numbers_changed bits truth 0 k.more) (first_half.within bits truth) (k.finds.within bits truth));
        goes_on = λ bits truth rest.
            ap (numbers_changed bits truth 0) (append_assoc h.more k.more rest)
            ∙ h.finds.goes_on bits truth (k.more ++ rest)
            ∙ ap (λ l. numbers_changed bits truth 0 h.more ++ l) (k.finds.goes_on bits truth rest)
            ∙ sym (append_assoc (numbers_changed bits truth 0 h.more) (numbers_changed bits truth 0 k.more) (numbers_changed bits truth 0 rest))
            ∙ ap (λ l. l ++ numbers_changed bits truth 0 rest) (sym (h.finds.goes_on bits truth k.more));
      };
    }

-- an atom more changes
pub more_change : {parts : TaskParts} (atoms : List Atom) (program new : List Instruction) (made : Bool) (atom : Atom) (number : ℕ) → number_in atoms atom ≡ Some number → new ≡ program ++ Change made number ∷ []
    → FindsMore parts atoms program new (λ state. changed_alone made atom)
more_change atoms program new made atom number is added =
    record {
      more = Change made number ∷ [];
      is = added;
      finds = record {
        numbers = λ state bits stays are truth. by made truth;
        within = λ bits truth. one (beq made truth);
        goes_on = λ bits truth rest. split (beq made truth) (numbers_changed bits truth 0 rest);
      };
    }
  where
    by : (here truth : Bool) → AreNumbers atoms (changed_alone here atom truth) (cond (beq here truth) (number ∷ []) [])
    by true true = ap (λ o. o ∷ []) is
    by true false = refl
    by false true = refl
    by false false = ap (λ o. o ∷ []) is

    one : (b : Bool) → All (IsNumber atoms) (cond b (number ∷ []) [])
    one true = All-cons (IsNumber atoms) number [] (atom, is) (All-nil (IsNumber atoms))
    one false = All-nil (IsNumber atoms)

    split : (b : Bool) (rest : List ℕ) → cond b (number ∷ rest) rest ≡ cond b (number ∷ []) [] ++ rest
    split true rest = refl
    split false rest = refl

signed_equal : (wanted truth : Bool) → signed wanted truth ≡ beq truth wanted
signed_equal true true = refl
signed_equal true false = refl
signed_equal false true = refl
signed_equal false false = refl

-- a program that skips all of its instructions finds nothing, and then goes on
all_skipped : (bits : ℕ → Bool) (truth : Bool) (program : List Instruction) → numbers_changed bits truth (length program) program ≡ []
all_skipped bits truth program = skipped bits truth (length program) program ∙ ap (numbers_changed bits truth 0) (drop-length program)

skipped_on : (bits : ℕ → Bool) (truth : Bool) (program rest : List Instruction) → numbers_changed bits truth (length program) (program ++ rest) ≡ numbers_changed bits truth 0 rest
skipped_on bits truth program rest = skipped bits truth (length program) (program ++ rest) ∙ ap (numbers_changed bits truth 0) (drop-append_seam program rest)

module _ (parts : TaskParts) (objects bound : List ℕ) (literal : Tree) (old_atoms new_atoms : List Atom) (keep : KeepsNumbers old_atoms new_atoms) (before old : List Instruction) (found : FoundIn)
    (h : FindsMore parts old_atoms before old found) where
  abbrev Behind : List Instruction → Type 0
  Behind new = FindsMore parts new_atoms before new (where_it_holds parts objects bound literal found)

  -- what was found is found only where a literal holds, which a test decides
  pub more_tested : (wanted : Bool) (fact : Atom) (number skip : ℕ) (new : List Instruction) → number_in new_atoms fact ≡ Some number
      → ((state : State) → holds_bound parts state objects bound literal ≡ signed wanted (state fact)) → skip ≡ length h.more → new ≡ before ++ Test wanted number skip ∷ h.more → Behind new
  more_tested wanted fact number skip new is means all put =
      record {
        more = Test wanted number skip ∷ h.more;
        is = put;
        finds = record {
          numbers = λ state bits stays are truth.
              let same : holds_bound parts state objects bound literal ≡ beq (bits number) wanted = means state ∙ signed_equal wanted (state fact) ∙ ap (λ b. beq b wanted) (sym (are fact number is)) in
              subst (λ b. AreNumbers new_atoms (cond b (found state truth) []) (numbers_changed bits truth (cond (beq (bits number) wanted) 0 skip) h.more)) (sym same)
              (by state bits truth (beq (bits number) wanted) (kept.numbers state bits stays are truth));
          within = λ bits truth. or_none bits truth (beq (bits number) wanted);
          goes_on = λ bits truth rest. on bits truth (beq (bits number) wanted) rest;
        };
      }
    where
      kept : Finds parts new_atoms h.more found
      kept = (more_kept old_atoms new_atoms keep before old found h).finds

      by : (state : State) (bits : ℕ → Bool) (truth b : Bool) → AreNumbers new_atoms (found state truth) (numbers_changed bits truth 0 h.more)
          → AreNumbers new_atoms (cond b (found state truth) []) (numbers_changed bits truth (cond b 0 skip) h.more)
      by state bits truth true e = e
      by state bits truth false e = sym (ap (map Some) (ap (λ k. numbers_changed bits truth k h.more) all ∙ all_skipped bits truth h.more))

      or_none : (bits : ℕ → Bool) (truth b : Bool) → All (IsNumber new_atoms) (numbers_changed bits truth (cond b 0 skip) h.more)
      or_none bits truth true = kept.within bits truth
      or_none bits truth false =
          subst (All (IsNumber new_atoms)) (sym (ap (λ k. numbers_changed bits truth k h.more) all ∙ all_skipped bits truth h.more)) (All-nil (IsNumber new_atoms))

      on : (bits : ℕ → Bool) (truth b : Bool) (rest : List Instruction)
          → numbers_changed bits truth (cond b 0 skip) (h.more ++ rest) ≡ numbers_changed bits truth (cond b 0 skip) h.more ++ numbers_changed bits truth 0 rest
      on bits truth true rest = h.finds.goes_on bits truth rest
      on bits truth false rest =
          ap (λ k. numbers_changed bits truth k (h.more ++ rest)) all ∙ skipped_on bits truth h.more rest
          ∙ ap (λ l. l ++ numbers_changed bits truth 0 rest) (sym (ap (λ k. numbers_changed bits truth k h.more) all ∙ all_skipped bits truth h.more))

  -- a literal that holds in every state of the task needs no test
  pub more_certain : (new : List Instruction) → new ≡ old → ((state : State) → KeepsStatics parts state → holds_bound parts state objects bound literal ≡ true) → Behind new
  more_certain new same holds =
      subst (λ l. Behind l) (sym same)
      (more_where new_atoms before old found (where_it_holds parts objects bound literal found) (λ state stays truth. ap (λ b. cond b (found state truth) []) (sym (holds state stays)))
      (more_kept old_atoms new_atoms keep before old found h))

-- what is found in the states in which all of these formulas hold
abbrev pub where_all_hold : TaskParts → List ℕ → List ℕ → List Tree → FoundIn → FoundIn
where_all_hold parts objects bound conditions found state truth = cond (list_all (holds_bound parts state objects bound) conditions) (found state truth) []

-- an instruction is put between those before and those behind it
pub put_before : {X : Type 0} (before all more : List X) (start : ℕ) (x : X) → all ≡ before ++ more → length before ≡ start → insert all start x ≡ before ++ x ∷ more
put_before before all more start x is at =
    (λ j. insert (is j) (sym at j) x) ∙ (λ j. take-append_seam before more j ++ x ∷ drop-append_seam before more j)

module _ {X : Type 0} (p : X → Bool) where
  -- not all pass if one does not
  pub one_fails : (xs : List X) (i : ℕ) (x : X) → i < length xs → x ≡ get_or xs i x → p x ≡ false → list_all p xs ≡ false
  one_fails [] i x lt is fails = absurd (omega (arith, lt))
  one_fails (y ∷ ys) zero x lt is fails = ap (λ b. b && list_all p ys) (ap p (sym is) ∙ fails)
  one_fails (y ∷ ys) (suc i) x lt is fails = ap (λ b. p y && b) (one_fails ys i x (omega (arith, lt)) is fails) ∙ and-false (p y)

  -- one more has to pass
  pub one_more_passes : {Y : Type 0} (xs : List X) (i : ℕ) (x : X) (found : List Y) → i < length xs → x ≡ get_or xs i x
      → cond (p x) (cond (list_all p (take i xs)) found []) [] ≡ cond (list_all p (take (i + 1) xs)) found []
  one_more_passes {Y} xs i x found lt is =
      by (list_all p (take i xs)) (p x)
      ∙ ap (λ b. cond b found []) (ap (λ y. list_all p (take i xs) && p y) is ∙ sym (list_all_more p xs i x lt))
    where
      by : (all one : Bool) → cond {A = List Y} one (cond all found []) [] ≡ cond (all && one) found []
      by true true = refl
      by true false = refl
      by false true = refl
      by false false = refl

-- an atom that becomes true or false, as an effect
pub alone_is : (parts : TaskParts) (objects bound : List ℕ) (whole : EffectTree) (made : Bool) (pattern : Pattern) → whole ≡ change made pattern → (state : State) (truth : Bool)
    → changed_alone made (atom_of objects bound pattern) truth ≡ effect_found parts state objects bound whole truth
alone_is parts objects bound whole made pattern is state truth = by made truth ∙ ap (λ e. effect_found parts state objects bound e truth) (sym is)
  where
    by : (here there : Bool) → changed_alone here (atom_of objects bound pattern) there ≡ cond (beq here there) (atom_of objects bound pattern ∷ []) []
    by true true = refl
    by true false = refl
    by false true = refl
    by false false = refl

module _ (parts : TaskParts) (objects bound : List ℕ) (whole body this : EffectTree) where
  -- an effect under `when`, found where the condition holds
  pub when_is : (condition : Tree) (now : List ℕ) → whole ≡ conditional condition body → this ≡ body → now ≡ bound → (state : State) (truth : Bool)
      → where_it_holds parts objects now condition (λ before. effect_found parts before objects bound this) state truth ≡ effect_found parts state objects bound whole truth
  when_is condition now is same_body same state truth =
      (λ j. cond (holds_bound parts state objects (same j) condition) (effect_found parts state objects bound (same_body j) truth) [])
      ∙ ap (λ e. effect_found parts state objects bound e truth) (sym is)

  -- an effect whose condition holds in no state of the task
  pub never_is : (condition : Tree) (now : List ℕ) → whole ≡ conditional condition body → now ≡ bound → ((state : State) → KeepsStatics parts state → holds_bound parts state objects now condition ≡ false)
      → (state : State) → KeepsStatics parts state → (truth : Bool) → effect_found parts state objects bound whole truth ≡ []
  never_is condition now is same fails state stays truth =
      ap (λ e. effect_found parts state objects bound e truth) is
      ∙ ap (λ b. cond b (effect_found parts state objects bound body truth) []) (ap (λ l. holds_bound parts state objects l condition) (sym same) ∙ fails state stays)

  -- an effect for which there is no choice of objects
  pub no_choice_is : (groups these : List VariableGroup) → whole ≡ universal groups body → these ≡ groups → extensions (objects_of parts) (variable_types these) bound ≡ []
      → (state : State) (truth : Bool) → effect_found parts state objects bound whole truth ≡ []
  no_choice_is groups these is same none state truth =
      ap (λ e. effect_found parts state objects bound e truth) is
      ∙ ap (flat_map (λ extended. effect_found parts state objects extended body truth)) (ap (λ l. extensions (objects_of parts) (variable_types l) bound) (sym same) ∙ none)

-- a program that was empty finds only numbers of atoms
pub found_within : (parts : TaskParts) (atoms : List Atom) (old program : List Instruction) (found : FoundIn) → old ≡ [] → FindsMore parts atoms old program found
    → (bits : ℕ → Bool) (truth : Bool) → All (IsNumber atoms) (numbers_changed bits truth 0 program)
found_within parts atoms old program found empty h bits truth =
    subst (λ l. All (IsNumber atoms) (numbers_changed bits truth 0 l)) (sym (h.is ∙ ap (λ l. l ++ h.more) empty)) (h.finds.within bits truth)

-- a program that was empty finds what all effects of an action change
pub found_all : (parts : TaskParts) (objects bound : List ℕ) (effects these : List EffectTree) (atoms : List Atom) (old program : List Instruction) → bound ≡ [] → these ≡ effects → old ≡ []
    → FindsMore parts atoms old program (λ before. effects_found parts before objects bound these)
    → (state : State) (bits : ℕ → Bool) → KeepsStatics parts state → AreBitsOf atoms state bits → (truth : Bool) → AreNumbers atoms (changed_by parts objects state truth effects) (numbers_changed bits truth 0 program)
found_all parts objects bound effects these atoms old program none same empty h state bits stays are truth =
    subst (λ l. AreNumbers atoms (changed_by parts objects state truth effects) (numbers_changed bits truth 0 l)) (sym (h.is ∙ ap (λ l. l ++ h.more) empty))
    (subst (λ l. AreNumbers atoms l (numbers_changed bits truth 0 h.more)) (λ j. effects_found parts state objects (none j) (same j) truth) (h.finds.numbers state bits stays are truth))
