-- A state that is taken through a list, one equation for each case.

use Rattle.std.proofs.Common.{◌≡◌, List, [], ◌∷◌, ◌++◌, Option, Some, None, refl, subst, ◌∙◌}
use Rattle.std.specs.Option.{option_and_then}
use Rattle.pddl_syntax.specs.Optional.{through}
use Rattle.pddl_reader.proofs.Items.{item_steps}

-- what is left to do behind one step
unfoldable pub through_behind : {S X : Type 0} → (S → X → Option S) → Option S → List X → Option S
through_behind step None xs = None
through_behind step (Some state) xs = through step state xs

through_read : {S X : Type 0} (step : S → X → Option S) (next : Option S) (xs : List X) →
    option_and_then (λ state. through step state xs) next ≡ through_behind step next xs
unfolding through_behind
through_read step None xs = refl
through_read step (Some state) xs = refl

pub through_end : {S X : Type 0} (step : S → X → Option S) (state : S) → through step state [] ≡ Some state
unfolding through
through_end step state = refl

pub through_item : {S X : Type 0} (step : S → X → Option S) (state : S) (x : X) (xs : List X) →
    through step state (x ∷ xs) ≡ through_behind step (step state x) xs
unfolding through
through_item step state x xs = through_read step (step state x) xs

pub through_append : {S X : Type 0} (step : S → X → Option S) (state : S) (xs ys : List X) →
    through step state (xs ++ ys) ≡ through_behind step (through step state xs) ys
unfolding through through_behind
through_append step state [] ys = refl
through_append {S} {X} step state (x ∷ xs) ys = by (step state x) (λ s. through_append step s xs ys)
  where
    by : (next : Option S) → ((s : S) → through step s (xs ++ ys) ≡ through_behind step (through step s xs) ys) →
        option_and_then (λ s. through step s (xs ++ ys)) next ≡ through_behind step (option_and_then (λ s. through step s xs) next) ys
    by None rest = refl
    by (Some s) rest = rest s

pub behind_none : {S X : Type 0} (step : S → X → Option S) (xs : List X) → through_behind step None xs ≡ None
unfolding through_behind
behind_none step xs = refl

pub behind_some : {S X : Type 0} (step : S → X → Option S) (state : S) (xs : List X) → through_behind step (Some state) xs ≡ through step state xs
unfolding through_behind
behind_some step state xs = refl

pub through_one : {S X : Type 0} (step : S → X → Option S) (state : S) (x : X) → through step state (x ∷ []) ≡ step state x
through_one {S} step state x = through_item step state x [] ∙ by (step state x)
  where
    by : (next : Option S) → through_behind step next [] ≡ next
    by None = behind_none step []
    by (Some s) = behind_some step s [] ∙ through_end step s

pub ruleset through_steps = (item_steps, through_end, through_item, behind_none, behind_some)

-- what each step keeps is kept
pub through_keeps : {S X : Type 0} (P : S → Type 0) (step : S → X → Option S) →
    ((s : S) (x : X) (t : S) → P s → step s x ≡ Some t → P t) → (s : S) (xs : List X) (t : S) → P s → through step s xs ≡ Some t → P t
unfolding through
through_keeps {S} P step keeps s [] t kept h = let e : s ≡ t = cc in subst P e kept
through_keeps {S} {X} P step keeps s (x ∷ xs) t kept h =
    by (step s x) (λ u e. keeps s x u kept e) (λ u k e. through_keeps P step keeps u xs t k e) h
  where
    by : (next : Option S) → ((u : S) → next ≡ Some u → P u) → ((u : S) → P u → through step u xs ≡ Some t → P t) →
        option_and_then (λ state. through step state xs) next ≡ Some t → P t
    by None first rest e = cc
    by (Some u) first rest e = rest u (first u refl) e
