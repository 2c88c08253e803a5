-- The numbers of atoms in a list: two atoms with one number are the same, and atoms that come behind change no other number.

use Rattle.std.proofs.Common.{◌≡◌, ℕ, suc, ◌+◌, ◌<◌, ◌≤◌, Bool, true, false, cond, ◌||◌, List, [], ◌∷◌, ◌++◌, Option, Some, None, option_map, is_some, Result, Ok, Err, IfOk, OnOk, slice_get, refl, ap, sym, ◌∙◌, length, arith, if◌then◌else◌}
use Rattle.std.specs.List.{position_from, list_any}
use Rattle.indexmap.specs.IndexSet.{insert_key}
use Rattle.formulas.specs.declared.atoms.Atom.{Atom}
use Rattle.formulas.specs.Atom.{atom_eq}
use Rattle.strips_task.proofs.AtomEquality.{atom_equiv, atom_same}
use Rattle.strips_task.specs.AtomNumbers.{number_in}
use Rattle.strips_task.proofs.Numbered.{at_end}

module _ {A : Type 0} where
  -- numbers count up from the first
  index-le : (p : A → Bool) (i n : ℕ) (xs : List A) → position_from p i xs ≡ Some n → i ≤ n
  index-le p i n [] e = cc
  index-le p i n (x ∷ xs) e = by (p x) refl (index-le p (i + 1) n xs)
    where
      by : (b : Bool) → p x ≡ b → (position_from p (i + 1) xs ≡ Some n → i + 1 ≤ n) → i ≤ n
      by true is rest = let same : Some i ≡ Some n = sym (ap (λ c. cond c (Some i) (position_from p (i + 1) xs)) is) ∙ e in let at : i ≡ n = cc in omega arith
      by false is rest = omega (arith, rest (sym (ap (λ c. cond c (Some i) (position_from p (i + 1) xs)) is) ∙ e))

  -- at one index stands one item, which passes both tests
  pub one_item : (p q : A → Bool) (i n : ℕ) (xs : List A) → position_from p i xs ≡ Some n → position_from q i xs ≡ Some n → (x : A) × (p x ≡ true) × (q x ≡ true)
  one_item p q i n [] e f = cc
  one_item p q i n (x ∷ xs) e f = by (p x) (q x) refl refl (one_item p q (i + 1) n xs)
    where
      by : (b c : Bool) → p x ≡ b → q x ≡ c
          → (position_from p (i + 1) xs ≡ Some n → position_from q (i + 1) xs ≡ Some n → (y : A) × (p y ≡ true) × (q y ≡ true))
          → (y : A) × (p y ≡ true) × (q y ≡ true)
      by true true is was rest = (x, is, was)
      by true false is was rest =
          let same : Some i ≡ Some n = sym (ap (λ c. cond c (Some i) (position_from p (i + 1) xs)) is) ∙ e in
          let at : i ≡ n = cc in
          absurd (omega (arith, index-le q (i + 1) n xs (sym (ap (λ c. cond c (Some i) (position_from q (i + 1) xs)) was) ∙ f)))
      by false true is was rest =
          let same : Some i ≡ Some n = sym (ap (λ c. cond c (Some i) (position_from q (i + 1) xs)) was) ∙ f in
          let at : i ≡ n = cc in
          absurd (omega (arith, index-le p (i + 1) n xs (sym (ap (λ c. cond c (Some i) (position_from p (i + 1) xs)) is) ∙ e)))
      by false false is was rest =
          rest (sym (ap (λ c. cond c (Some i) (position_from p (i + 1) xs)) is) ∙ e) (sym (ap (λ c. cond c (Some i) (position_from q (i + 1) xs)) was) ∙ f)

  -- where an index is found, an item that passes stands there
  index_item : (p : A → Bool) (i n : ℕ) (xs : List A) → position_from p i xs ≡ Some n
      → (k : ℕ) × (x : A) × (n ≡ i + k) × (slice_get xs k ≡ Some x) × (p x ≡ true)
  index_item p i n [] e = cc
  index_item p i n (x ∷ xs) e = by (p x) refl (index_item p (i + 1) n xs)
    where
      by : (b : Bool) → p x ≡ b
          → (position_from p (i + 1) xs ≡ Some n → (k : ℕ) × (y : A) × (n ≡ i + 1 + k) × (slice_get xs k ≡ Some y) × (p y ≡ true))
          → (k : ℕ) × (y : A) × (n ≡ i + k) × (slice_get (x ∷ xs) k ≡ Some y) × (p y ≡ true)
      by true is rest =
          let same : Some i ≡ Some n = sym (ap (λ c. cond c (Some i) (position_from p (i + 1) xs)) is) ∙ e in
          let at : i ≡ n = cc in
          (0, x, omega (arith, at), refl, is)
      by false is rest =
          let there = rest (sym (ap (λ c. cond c (Some i) (position_from p (i + 1) xs)) is) ∙ e) in
          let far : n ≡ i + 1 + there.0 = there.2 in
          (suc there.0, there.1, omega (arith, far), there.3, there.4)

  -- an item has an index exactly where some item passes
  pub is_some-index : (p : A → Bool) (i : ℕ) (xs : List A) → is_some (position_from p i xs) ≡ list_any p xs
  is_some-index p i [] = refl
  is_some-index p i (x ∷ xs) = by (p x) (is_some-index p (i + 1) xs)
    where
      by : (b : Bool) → is_some (position_from p (i + 1) xs) ≡ list_any p xs → is_some (cond b (Some i) (position_from p (i + 1) xs)) ≡ (b || list_any p xs)
      by true rest = refl
      by false rest = rest

  -- an index is within the list
  pub index-lt : (p : A → Bool) (i n : ℕ) (xs : List A) → position_from p i xs ≡ Some n → n + 1 ≤ i + length xs
  index-lt p i n [] e = cc
  index-lt p i n (x ∷ xs) e = by (p x) refl (index-lt p (i + 1) n xs)
    where
      by : (b : Bool) → p x ≡ b → (position_from p (i + 1) xs ≡ Some n → n + 1 ≤ i + 1 + length xs) → n + 1 ≤ i + length (x ∷ xs)
      by true is rest = let same : Some i ≡ Some n = sym (ap (λ c. cond c (Some i) (position_from p (i + 1) xs)) is) ∙ e in let at : i ≡ n = cc in omega arith
      by false is rest = omega (arith, rest (sym (ap (λ c. cond c (Some i) (position_from p (i + 1) xs)) is) ∙ e))

  -- an item at the end that does not pass changes nothing
  pub index-push_other : (p : A → Bool) (i : ℕ) (xs : List A) (y : A) → p y ≡ false → position_from p i (xs ++ y ∷ []) ≡ position_from p i xs
  index-push_other p i [] y e = ap (λ c. cond c (Some i) None) e
  index-push_other p i (x ∷ xs) y e = ap (cond (p x) (Some i)) (index-push_other p (i + 1) xs y e)

  -- one that passes, where none did, is at the end
  pub index-push_new : (p : A → Bool) (i : ℕ) (xs : List A) (y : A) → position_from p i xs ≡ None → p y ≡ true → position_from p i (xs ++ y ∷ []) ≡ Some (i + length xs)
  index-push_new p i [] y none e = ap (λ c. cond c (Some i) None) e ∙ ap Some (omega arith)
  index-push_new p i (x ∷ xs) y none e = by (p x) refl (index-push_new p (i + 1) xs y)
    where
      by : (b : Bool) → p x ≡ b → (position_from p (i + 1) xs ≡ None → p y ≡ true → position_from p (i + 1) (xs ++ y ∷ []) ≡ Some (i + 1 + length xs))
          → position_from p i ((x ∷ xs) ++ y ∷ []) ≡ Some (i + length (x ∷ xs))
      by true is rest = let apart : Some i ≡ None = sym (ap (λ c. cond c (Some i) (position_from p (i + 1) xs)) is) ∙ none in cc
      by false is rest =
          ap (λ c. cond c (Some i) (position_from p (i + 1) (xs ++ y ∷ []))) is
          ∙ rest (sym (ap (λ c. cond c (Some i) (position_from p (i + 1) xs)) is) ∙ none) e
          ∙ ap Some (omega arith)

  -- items that follow change no index
  pub index-stays : (p : A → Bool) (i n : ℕ) (xs ys : List A) → position_from p i xs ≡ Some n → position_from p i (xs ++ ys) ≡ Some n
  index-stays p i n [] ys e = cc
  index-stays p i n (x ∷ xs) ys e = by (p x) refl (index-stays p (i + 1) n xs ys)
    where
      by : (b : Bool) → p x ≡ b → (position_from p (i + 1) xs ≡ Some n → position_from p (i + 1) (xs ++ ys) ≡ Some n) → position_from p i ((x ∷ xs) ++ ys) ≡ Some n
      by true is rest =
          ap (λ c. cond c (Some i) (position_from p (i + 1) (xs ++ ys))) is ∙ sym (ap (λ c. cond c (Some i) (position_from p (i + 1) xs)) is) ∙ e
      by false is rest =
          ap (λ c. cond c (Some i) (position_from p (i + 1) (xs ++ ys))) is ∙ rest (sym (ap (λ c. cond c (Some i) (position_from p (i + 1) xs)) is) ∙ e)

  -- where no item passes, the index is one of those that follow
  pub index-behind : (p : A → Bool) (i : ℕ) (xs ys : List A) → position_from p i xs ≡ None → position_from p i (xs ++ ys) ≡ position_from p (i + length xs) ys
  index-behind p i [] ys none = ap (λ k. position_from p k ys) (let e : i ≡ i + 0 = omega arith in e)
  index-behind p i (x ∷ xs) ys none = by (p x) refl (index-behind p (i + 1) xs ys)
    where
      by : (b : Bool) → p x ≡ b → (position_from p (i + 1) xs ≡ None → position_from p (i + 1) (xs ++ ys) ≡ position_from p (i + 1 + length xs) ys)
          → position_from p i ((x ∷ xs) ++ ys) ≡ position_from p (i + length (x ∷ xs)) ys
      by true is rest = let apart : Some i ≡ None = sym (ap (λ c. cond c (Some i) (position_from p (i + 1) xs)) is) ∙ none in cc
      by false is rest =
          ap (λ c. cond c (Some i) (position_from p (i + 1) (xs ++ ys))) is
          ∙ rest (sym (ap (λ c. cond c (Some i) (position_from p (i + 1) xs)) is) ∙ none)
          ∙ ap (λ k. position_from p k ys) (let e : i + 1 + length xs ≡ i + length (x ∷ xs) = omega arith in e)

  -- and so it comes after all indexes of the first part
  pub index-late : (p : A → Bool) (i n : ℕ) (xs ys : List A) → position_from p i xs ≡ None → position_from p i (xs ++ ys) ≡ Some n → i + length xs ≤ n
  index-late p i n xs ys none e = index-le p (i + length xs) n ys (sym (index-behind p i xs ys none) ∙ e)

  -- where no item of the whole passes, none of the first part does
  pub index-none : (p : A → Bool) (i : ℕ) (xs ys : List A) → position_from p i (xs ++ ys) ≡ None → position_from p i xs ≡ None
  index-none p i xs ys none = by (position_from p i xs) refl
    where
      by : (o : Option ℕ) → position_from p i xs ≡ o → o ≡ None
      by None e = refl
      by (Some n) e = let apart : Some n ≡ None = sym (index-stays p i n xs ys e) ∙ none in cc

  -- indexes that are counted from further on
  pub index-shift : (p : A → Bool) (i d : ℕ) (xs : List A) → position_from p (d + i) xs ≡ option_map (λ n. d + n) (position_from p i xs)
  index-shift p i d [] = refl
  index-shift p i d (x ∷ xs) = by (p x) (ap (λ k. position_from p k xs) (let e : d + i + 1 ≡ d + (i + 1) = omega arith in e) ∙ index-shift p (i + 1) d xs)
    where
      by : (b : Bool) → position_from p (d + i + 1) xs ≡ option_map (λ n. d + n) (position_from p (i + 1) xs)
          → cond b (Some (d + i)) (position_from p (d + i + 1) xs) ≡ option_map (λ n. d + n) (cond b (Some i) (position_from p (i + 1) xs))
      by true rest = refl
      by false rest = rest

-- two atoms with one number are the same
pub same_number : (atoms : List Atom) (a b : Atom) (n : ℕ) → number_in atoms a ≡ Some n → number_in atoms b ≡ Some n → a ≡ b
same_number atoms a b n e f =
    let at = one_item (atom_eq a) (atom_eq b) 0 n atoms e f in
    atom_same a at.0 at.1 ∙ sym (atom_same b at.0 at.2)

-- an atom that had no number gets the next
pub number_in-push_new : (atoms : List Atom) (a copy : Atom) → copy ≡ a → number_in atoms a ≡ None → number_in (atoms ++ copy ∷ []) a ≡ Some (length atoms)
number_in-push_new atoms a copy same none =
    index-push_new (atom_eq a) 0 atoms copy none (ap (atom_eq a) same ∙ atom_equiv.refl a) ∙ ap Some (omega arith)

-- and the others keep theirs
pub number_in-push_other : (atoms : List Atom) (a copy other : Atom) → copy ≡ a → atom_eq a other ≡ false → number_in (atoms ++ copy ∷ []) other ≡ number_in atoms other
number_in-push_other atoms a copy other same apart =
    index-push_other (atom_eq other) 0 atoms copy (ap (atom_eq other) same ∙ atom_equiv.symm other a ∙ apart)

-- an atom stands at its number
pub number_in-at : (atoms : List Atom) (a : Atom) (n : ℕ) → number_in atoms a ≡ Some n → slice_get atoms n ≡ Some a
number_in-at atoms a n e =
    let there = index_item (atom_eq a) 0 n atoms e in
    let k : ℕ = there.0 in
    let far : n ≡ 0 + k = there.2 in
    let at : n ≡ k = omega (arith, far) in
    ap (slice_get atoms) at ∙ there.3 ∙ ap Some (sym (atom_same a there.1 there.4))

-- an atom that is put at the end has the number that comes next, if it was put there
pub number_at_end : {E : Type 0} (result : Result ℕ E) (atoms more : List Atom) (a : Atom) → OnOk result (more ≡ atoms ++ a ∷ []) → IfOk result (λ n. n ≡ length atoms)
    → IfOk result (λ n. slice_get more n ≡ Some a)
number_at_end (Ok n) atoms more a is at = ap (λ l. slice_get l n) is ∙ ap (slice_get (atoms ++ a ∷ [])) at ∙ at_end atoms a
number_at_end (Err e) atoms more a is at = tt

-- an insertion of an atom that has a number changes nothing
pub insert_key-known : (atoms : List Atom) (a : Atom) (n : ℕ) → number_in atoms a ≡ Some n → insert_key atom_eq atoms a ≡ atoms
insert_key-known atoms a n e =
    let present : list_any (atom_eq a) atoms ≡ true = sym (is_some-index (atom_eq a) 0 atoms) ∙ ap is_some e in
    ap (λ c. if c then atoms else atoms ++ a ∷ []) present

-- one of an atom without a number puts it at the end
pub insert_key-new : (atoms : List Atom) (a : Atom) → number_in atoms a ≡ None → insert_key atom_eq atoms a ≡ atoms ++ a ∷ []
insert_key-new atoms a none =
    let absent : list_any (atom_eq a) atoms ≡ false = sym (is_some-index (atom_eq a) 0 atoms) ∙ ap is_some none in
    ap (λ c. if c then atoms else atoms ++ a ∷ []) absent

-- the number of an atom of the first of two lists, in both together
pub number_in-first : (first later : List Atom) (a : Atom) (n : ℕ) → number_in first a ≡ Some n → number_in (first ++ later) a ≡ Some n
number_in-first first later a n e = index-stays (atom_eq a) 0 n first later e

-- that of an atom that the first list lacks
pub number_in-later : (first later : List Atom) (a : Atom) → number_in first a ≡ None → number_in (first ++ later) a ≡ option_map (λ n. length first + n) (number_in later a)
number_in-later first later a none =
    index-behind (atom_eq a) 0 first later none
    ∙ ap (λ k. position_from (atom_eq a) k later) (let e : 0 + length first ≡ length first + 0 = omega arith in e)
    ∙ index-shift (atom_eq a) 0 (length first) later

-- an atom without a number in both together has none in the second list
pub number_in-none_later : (first later : List Atom) (a : Atom) → number_in (first ++ later) a ≡ None → number_in later a ≡ None
number_in-none_later first later a none = by (number_in later a) (sym (number_in-later first later a (index-none (atom_eq a) 0 first later none)) ∙ none)
  where
    by : (o : Option ℕ) → option_map (λ n. length first + n) o ≡ None → o ≡ None
    by None e = refl
    by (Some n) e = cc

-- numbers are below how many there are
pub number_in-lt : (atoms : List Atom) (a : Atom) (n : ℕ) → number_in atoms a ≡ Some n → n < length atoms
number_in-lt atoms a n e = omega (arith, index-lt (atom_eq a) 0 n atoms e)
