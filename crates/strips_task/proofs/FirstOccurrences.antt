-- What is known of the first occurrences of a list's items.

use Rattle.std.proofs.Common.{◌≡◌, Bool, true, false, not, List, [], ◌∷◌, ◌++◌, filter, refl, ap, sym, ◌∙◌, cond, ◌||◌, append-nil, if◌then◌else◌}
use Rattle.std.proofs.lemmas.List.Elements.{filter-append}
use Rattle.std.proofs.lemmas.Map.Views.{any-filter_same}
use Rattle.std.specs.List.{list_any}
use Rattle.std.specs.Cmp.{IsEquivalence}
use Rattle.indexmap.specs.IndexSet.{insert_key}
use Rattle.strips_task.specs.FirstOccurrences.{first_occurrences}

module _ {A : Type 0} {eq : A → A → Bool} (laws : IsEquivalence eq) where
  -- one more item changes the filtered list as it changes the list
  push_filtered : (x : A) (ks : List A) (z : A) (b : Bool) → eq x z ≡ b
      → x ∷ filter (λ y. not (eq x y)) (insert_key eq ks z) ≡ insert_key eq (x ∷ filter (λ y. not (eq x y)) ks) z
  push_filtered x ks z true same =
      by (list_any (eq z) ks) refl
    where
      p : A → Bool
      p = λ y. not (eq x y)

      right : insert_key eq (x ∷ filter (λ y. not (eq x y)) ks) z ≡ x ∷ filter (λ y. not (eq x y)) ks
      right = ap (λ c. if c || list_any (eq z) (filter (λ y. not (eq x y)) ks) then x ∷ filter (λ y. not (eq x y)) ks else (x ∷ filter (λ y. not (eq x y)) ks) ++ z ∷ []) (laws.symm z x ∙ same)

      by : (c : Bool) → list_any (eq z) ks ≡ c
          → x ∷ filter (λ y. not (eq x y)) (insert_key eq ks z) ≡ insert_key eq (x ∷ filter (λ y. not (eq x y)) ks) z
      by true e = ap (λ c. x ∷ filter (λ y. not (eq x y)) (if c then ks else ks ++ z ∷ [])) e ∙ sym right
      by false e =
          ap (λ c. x ∷ filter (λ y. not (eq x y)) (if c then ks else ks ++ z ∷ [])) e
          ∙ ap (λ l. x ∷ l) (filter-append (λ y. not (eq x y)) ks (z ∷ [])
          ∙ ap (λ c. filter (λ y. not (eq x y)) ks ++ cond (not c) (z ∷ []) []) same
          ∙ append-nil (filter (λ y. not (eq x y)) ks))
          ∙ sym right
  push_filtered x ks z false other =
      by (list_any (eq z) ks) refl
    where
      apart : (k : A) → eq z k ≡ true → not (eq x k) ≡ true
      apart k e = ap not (laws.symm x k ∙ sym (laws.congr z k x e) ∙ laws.symm z x ∙ other)

      kept : list_any (eq z) (filter (λ y. not (eq x y)) ks) ≡ list_any (eq z) ks
      kept = any-filter_same (eq z) (λ y. not (eq x y)) true apart ks

      right : (c : Bool) → list_any (eq z) ks ≡ c → insert_key eq (x ∷ filter (λ y. not (eq x y)) ks) z
          ≡ (if c then x ∷ filter (λ y. not (eq x y)) ks else (x ∷ filter (λ y. not (eq x y)) ks) ++ z ∷ [])
      right c e = ap (λ d. if d || list_any (eq z) (filter (λ y. not (eq x y)) ks) then x ∷ filter (λ y. not (eq x y)) ks else (x ∷ filter (λ y. not (eq x y)) ks) ++ z ∷ []) (laws.symm z x ∙ other)
          ∙ ap (λ d. if d then x ∷ filter (λ y. not (eq x y)) ks else (x ∷ filter (λ y. not (eq x y)) ks) ++ z ∷ []) (kept ∙ e)

      by : (c : Bool) → list_any (eq z) ks ≡ c
          → x ∷ filter (λ y. not (eq x y)) (insert_key eq ks z) ≡ insert_key eq (x ∷ filter (λ y. not (eq x y)) ks) z
      by true e = ap (λ c. x ∷ filter (λ y. not (eq x y)) (if c then ks else ks ++ z ∷ [])) e ∙ sym (right true e)
      by false e =
          ap (λ c. x ∷ filter (λ y. not (eq x y)) (if c then ks else ks ++ z ∷ [])) e
          ∙ ap (λ l. x ∷ l) (filter-append (λ y. not (eq x y)) ks (z ∷ [])
          ∙ ap (λ c. filter (λ y. not (eq x y)) ks ++ cond (not c) (z ∷ []) []) other)
          ∙ sym (right false e)

  -- one more item goes last, unless an equal one is there
  pub first_occurrences-push : (xs : List A) (z : A) → first_occurrences eq (xs ++ z ∷ []) ≡ insert_key eq (first_occurrences eq xs) z
  unfolding first_occurrences
  first_occurrences-push [] z = refl
  first_occurrences-push (x ∷ xs) z =
      ap (λ l. x ∷ filter (λ y. not (eq x y)) l) (first_occurrences-push xs z) ∙ push_filtered x (first_occurrences eq xs) z (eq x z) refl
