-- The files of planners, read side by side.

use Rattle.std.proofs.Common.{◌≡◌, List, [], ◌∷◌, ℕ, Bor, Result, Ok, Err, IfOk, map, subst, sym}
use Rattle.std.specs.Prelude.{MatchResult}
use Rattle.std.specs.List.{AllZip}
use Rattle.judge_engine.specs.Bundle.{BundleValue}
use Rattle.commands.specs.Run.{IsFile, AreFiles}

module _ (E : Type 0) (MayHold : List ℕ → List ℕ → Type 0) where
  -- where each was read, they are the files
  all_read : (names : List (Bor (List ℕ))) (bundles : List BundleValue) → AllZip (λ (name : Bor (List ℕ)) (read : Result BundleValue E). IfOk read (IsFile MayHold name.now)) names (map Ok bundles)
      → AreFiles MayHold (map (λ (name : Bor (List ℕ)). name.now) names) bundles
  all_read [] [] all = all
  all_read [] (b ∷ bundles) all = absurd all
  all_read (n ∷ names) [] all = absurd all
  all_read (n ∷ names) (b ∷ bundles) all = (all.0, all_read names bundles all.1)

  pub are_files : (names : List (Bor (List ℕ))) (read : List (Result BundleValue E)) (bundles : List BundleValue)
      → AllZip (λ (name : Bor (List ℕ)) (one : Result BundleValue E). IfOk one (IsFile MayHold name.now)) names read → read ≡ map Ok bundles
      → AreFiles MayHold (map (λ (name : Bor (List ℕ)). name.now) names) bundles
  are_files names read bundles all is =
      all_read names bundles (subst (λ (l : List (Result BundleValue E)). AllZip (λ (name : Bor (List ℕ)) (one : Result BundleValue E). IfOk one (IsFile MayHold name.now)) names l) is all)

  -- what is read side by side: all of them, or else there is a reason
  pub read_files : {V : Type 0} (items : V → List BundleValue) (names : List (Bor (List ℕ))) (read : List (Result BundleValue E)) (all : Result V E) (Why : E → Type 0)
      → AllZip (λ (name : Bor (List ℕ)) (one : Result BundleValue E). IfOk one (IsFile MayHold name.now)) names read
      → MatchResult all (λ v. (bundles : List BundleValue) × (read ≡ map Ok bundles) × (items v ≡ bundles)) Why
      → IfOk all (λ v. AreFiles MayHold (map (λ (name : Bor (List ℕ)). name.now) names) (items v))
  read_files items names read (Ok v) Why each (bundles, is, gives) =
      subst (λ (l : List BundleValue). AreFiles MayHold (map (λ (name : Bor (List ℕ)). name.now) names) l) (sym gives) (are_files names read bundles each is)
  read_files items names read (Err e) Why each why = tt
