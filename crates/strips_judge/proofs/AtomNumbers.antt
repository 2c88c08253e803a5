-- Atoms and their numbers, one by one, and what growth leaves of them.

use Rattle.std.proofs.Common.{◌≡◌, ◌<◌, ◌≤◌, ◌+◌, ℕ, zero, suc, Bool, List, [], ◌∷◌, ◌++◌, Some, None, All, refl, ap, sym, ◌∙◌, length, map, slice_get, take, get_or, subst, ⊎_elim, arith}
use Rattle.std.proofs.lemmas.List.{take_all, map-append}
use Rattle.std.proofs.lemmas.Option.{get_or_from_slice_get, slice_get_cases, slice_get-get_or}
use Rattle.std.proofs.lemmas.List.Elements.{All-append, All-nil, All-cons}
use Rattle.formulas.specs.declared.atoms.Atom.{Atom}
use Rattle.strips_task.specs.AtomNumbers.{number_in}
use Rattle.strips_task.proofs.Numbering.{number_in-lt}
use Rattle.strips_judge.specs.NumberedState.{AreNumbers, KeepsNumbers}
use Rattle.strips_judge.specs.State.{State, without, with_all}
use Rattle.strips_judge.proofs.StepLaws.{taken_more, without-more, with_all-more}

module _ {A B C : Type 0} (f : A → C) (g : B → C) where
  -- beside each item of the one list stands one of the other
  pub beside : (xs : List A) (ys : List B) (i : ℕ) (y : B) → map f xs ≡ map g ys → slice_get ys i ≡ Some y → (x : A) × (slice_get xs i ≡ Some x) × (f x ≡ g y)
  beside [] [] i y e at = cc
  beside [] (z ∷ ys) i y e at = cc
  beside (x ∷ xs) [] i y e at = cc
  beside (x ∷ xs) (z ∷ ys) zero y e at = let is : z ≡ y = cc in let same : f x ≡ g z = cc in (x, refl, same ∙ ap g is)
  beside (x ∷ xs) (z ∷ ys) (suc i) y e at = let rest : map f xs ≡ map g ys = cc in beside xs ys i y rest at

  -- and the lists are of one length
  beside_length : (xs : List A) (ys : List B) → map f xs ≡ map g ys → length xs ≡ length ys
  beside_length [] [] e = refl
  beside_length [] (y ∷ ys) e = cc
  beside_length (x ∷ xs) [] e = cc
  beside_length (x ∷ xs) (y ∷ ys) e = let rest : map f xs ≡ map g ys = cc in ap suc (beside_length xs ys rest)

  -- so all of the one are taken with all of the other
  pub take_beside : (xs : List A) (ys : List B) (i : ℕ) → map f xs ≡ map g ys → length ys ≤ i → take i xs ≡ xs
  take_beside xs ys i e le = take_all i xs (let same = beside_length xs ys e in omega (arith, same, le))

-- one item more
take_at : {X : Type 0} (xs : List X) (i : ℕ) (x : X) → slice_get xs i ≡ Some x → take (i + 1) xs ≡ take i xs ++ x ∷ []
take_at xs i x at =
    ⊎_elim
    (λ h. let (y, lt, is, read) = h in taken_more xs i x lt (sym (get_or_from_slice_get xs i x x at)))
    (λ h. let apart : Some x ≡ None = sym at ∙ h.1 in cc)
    ((slice_get_cases xs i).1)

-- numbers are below how many there are
pub numbers_within : (atoms ground : List Atom) (numbers : List ℕ) → AreNumbers atoms ground numbers → All (λ n. n < length atoms) numbers
numbers_within atoms [] [] e = All-nil (λ n. n < length atoms)
numbers_within atoms [] (n ∷ ns) e = cc
numbers_within atoms (a ∷ more) [] e = cc
numbers_within atoms (a ∷ more) (n ∷ ns) e =
    let here : number_in atoms a ≡ Some n = cc in
    let rest : map (number_in atoms) more ≡ map Some ns = cc in
    All-cons (λ k. k < length atoms) n ns (number_in-lt atoms a n here) (numbers_within atoms more ns rest)

-- growth leaves numbers
pub numbers_kept : (old new : List Atom) → KeepsNumbers old new → (ground : List Atom) (numbers : List ℕ) → AreNumbers old ground numbers → AreNumbers new ground numbers
numbers_kept old new keep [] [] e = refl
numbers_kept old new keep [] (n ∷ ns) e = cc
numbers_kept old new keep (a ∷ more) [] e = cc
numbers_kept old new keep (a ∷ more) (n ∷ ns) e =
    let here : number_in old a ≡ Some n = cc in
    let rest : map (number_in old) more ≡ map Some ns = cc in
    ap (λ o. o ∷ map (number_in new) more) (keep a n here) ∙ ap (λ l. Some n ∷ l) (numbers_kept old new keep more ns rest)

module _ (atoms : List Atom) (ground : List Atom) (numbers : List ℕ) (i : ℕ) (same : AreNumbers atoms ground numbers) (lt : i < length numbers) where
  -- one atom more is deleted by its number
  pub clear_more : (start state next : State) → state ≡ without start (take i ground)
      → ((atom : Atom) → number_in atoms atom ≡ Some (get_or numbers i 0) → next ≡ without state (atom ∷ [])) → next ≡ without start (take (i + 1) ground)
  clear_more start state next so_far step =
      let (a, at, is) = beside (number_in atoms) Some ground numbers i (get_or numbers i 0) same (slice_get-get_or numbers i 0 lt) in
      without-more start state next (take i ground) (take (i + 1) ground) a (take_at ground i a at) so_far (step a is)

  -- one is added
  pub set_more : (start state next : State) → state ≡ with_all start (take i ground)
      → ((atom : Atom) → number_in atoms atom ≡ Some (get_or numbers i 0) → next ≡ with_all state (atom ∷ [])) → next ≡ with_all start (take (i + 1) ground)
  set_more start state next so_far step =
      let (a, at, is) = beside (number_in atoms) Some ground numbers i (get_or numbers i 0) same (slice_get-get_or numbers i 0 lt) in
      with_all-more start state next (take i ground) (take (i + 1) ground) a (take_at ground i a at) so_far (step a is)

  -- one is as it is asked to be
  pub are_more : (state : State) (truth found : Bool) → ((atom : Atom) → number_in atoms atom ≡ Some (get_or numbers i 0) → found ≡ state atom) → found ≡ truth
      → All (λ atom. state atom ≡ truth) (take i ground) → All (λ atom. state atom ≡ truth) (take (i + 1) ground)
  are_more state truth found says fits so_far =
      let (a, at, is) = beside (number_in atoms) Some ground numbers i (get_or numbers i 0) same (slice_get-get_or numbers i 0 lt) in
      subst (All (λ atom. state atom ≡ truth)) (sym (take_at ground i a at))
      (All-append (λ atom. state atom ≡ truth) (take i ground) (a ∷ []) so_far
      (All-cons (λ atom. state atom ≡ truth) a [] (sym (says a is) ∙ fits) (All-nil (λ atom. state atom ≡ truth))))

-- one number more, under growth
pub numbers_more : (old new : List Atom) → KeepsNumbers old new → (before all : List Atom) (numbers more : List ℕ) (a : Atom) (n : ℕ)
    → all ≡ before ++ a ∷ [] → more ≡ numbers ++ n ∷ [] → AreNumbers old before numbers → number_in new a ≡ Some n → AreNumbers new all more
numbers_more old new keep before all numbers more a n is_all is_more so_far here =
    ap (map (number_in new)) is_all ∙ map-append (number_in new) before (a ∷ [])
    ∙ ap (λ l. l ++ number_in new a ∷ []) (numbers_kept old new keep before numbers so_far)
    ∙ ap (λ o. map Some numbers ++ o ∷ []) here
    ∙ sym (map-append Some numbers (n ∷ [])) ∙ ap (map Some) (sym is_more)
