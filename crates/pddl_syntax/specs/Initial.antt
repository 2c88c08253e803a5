-- The initial atoms and values, given one by one to what takes them.

use Rattle.std.specs.Prelude.{◌≡◌, ◌⊎◌, List, [], ◌∷◌, Option, Some, None}
use Rattle.std.specs.Option.{option_map}
use Rattle.pddl_syntax.specs.declared.dialect.Dialect.{Dialect}
use Rattle.pddl_syntax.specs.Levels.{Levels}
use Rattle.pddl_syntax.specs.Syntax.{InitialForm, NameGroup, ProblemForm, ProblemSections, init_item_in, initial_in}
use Rattle.pddl_syntax.specs.Trees.{Trees, list}

-- a taker with all of these items
abbrev pub given_all : {T : Type 0} → (T → InitialForm → T) → T → List InitialForm → T
given_all given taker [] = taker
given_all given taker (item ∷ items) = given_all given (given taker item) items

-- a taker with the initial atoms and values in what is left of their list
unfoldable pub given_in : {T : Type 0} → (T → InitialForm → T) → Dialect → T → Trees → Option T
given_in given dialect taker trees = option_map (given_all given taker) (initial_in dialect trees)

-- the walk steps over an item, which is given to a taker
abbrev pub GivesItem : {T : Type 0} → (T → InitialForm → T) → Levels → Levels → T → T → Type 0
GivesItem given old new before after =
    (inside : Trees)
    × (item : InitialForm)
    × (old.top ≡ list inside new.top)
    × ((dialect : Dialect) → init_item_in dialect inside ≡ Some item)
    × (new.below ≡ old.below)
    × (after ≡ given before item)

-- a taker is as it was, or else it has begun with the objects, and has been given all items
abbrev pub HasTaken : {T : Type 0} → (T → List NameGroup → T) → (T → InitialForm → T) → T → T → Option (List NameGroup) → Option (List InitialForm) → Type 0
HasTaken begun given before after objects init =
    (after ≡ before)
    ⊎ ((groups : List NameGroup) × (items : List InitialForm) × (objects ≡ Some groups) × (init ≡ Some items) × (after ≡ given_all given (begun before groups) items))

-- the same of a whole problem
abbrev pub HasTakenAll : {T : Type 0} → (T → List NameGroup → T) → (T → InitialForm → T) → T → T → ProblemForm → Type 0
HasTakenAll begun given before after problem = (after ≡ before) ⊎ (after ≡ given_all given (begun before problem.objects) problem.init)

-- the objects and the items that were given still are
abbrev pub KeepsGiven : ProblemSections → ProblemSections → Type 0
KeepsGiven old new =
    ((groups : List NameGroup) → old.objects ≡ Some groups → new.objects ≡ Some groups)
    × ((items : List InitialForm) → old.init ≡ Some items → new.init ≡ Some items)

-- what a section does to a taker: nothing, unless it is the one of the items, and the objects are given already
abbrev pub TakesSection : {T : Type 0} → (T → List NameGroup → T) → (T → InitialForm → T) → ProblemSections → ProblemSections → T → T → Type 0
TakesSection begun given old new before after =
    KeepsGiven old new
    × ((after ≡ before)
    ⊎ ((groups : List NameGroup) × (items : List InitialForm) × (old.init ≡ None) × (old.objects ≡ Some groups) × (new.init ≡ Some items) × (after ≡ given_all given (begun before groups) items)))
