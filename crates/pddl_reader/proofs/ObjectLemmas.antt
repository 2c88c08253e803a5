-- Objects declared with their types, one equation for each case.

use Rattle.std.proofs.Common.{◌≡◌, ◌≢◌, ℕ, ◌<◌, ◌≤◌, ◌++◌, false, nat_eq, List, [], ◌∷◌, length, Option, Some, None, refl, ap, sym, ◌∙◌, arith}
use Rattle.std.proofs.lemmas.Bool.{le-ltb, lt-ltb, eqb-true, eq-eqb}
use Rattle.std.specs.List.{slice_get}
use Rattle.std.specs.Map.{keys_of}
use Rattle.pddl_words.specs.Words.{folded}
use Rattle.strips_task.specs.Names.{number_named, with_entry}
use Rattle.strips_task.proofs.NamedEntries.{inserted_new, inserted_again}
use Rattle.pddl_syntax.specs.declared.walk.NameWord.{NameWord}
use Rattle.pddl_syntax.specs.declared.syntax.NameGroup as groups
use Rattle.pddl_syntax.specs.Forms.{name_forms, name_group_form, name_groups}
use Rattle.pddl_reader.specs.Objects.{Objects, type_number, of_type, object_declared, objects_typed, objects_grouped, objects_from}
use Rattle.pddl_syntax.specs.Optional.{guard, through}
use Rattle.pddl_syntax.specs.Syntax.{NameGroup}
use Rattle.pddl_reader.proofs.TableLemmas.{value_unnamed, value_numbered}
use Rattle.pddl_reader.proofs.Through.{through_behind, through_item, through_end}

pub type_numbered : (types : List (List ℕ × Unit {0})) (word : List ℕ) → type_number (keys_of types) word ≡ number_named types (folded word)
unfolding type_number number_named
type_numbered types word = refl

pub ruleset type_steps = (type_numbered)

pub object_again : (type : ℕ) (objects : Objects) (word key : List ℕ) (number known : ℕ) → number_named objects (folded word) ≡ Some number →
    slice_get objects number ≡ Some (key, known) → known ≡ type → object_declared type objects word ≡ Some objects
unfolding object_declared of_type guard
object_again type objects word key number known h e is = rw (value_numbered objects (folded word) key number known h e, eq-eqb known type is) refl

pub object_otherwise : (type : ℕ) (objects : Objects) (word key : List ℕ) (number known : ℕ) → number_named objects (folded word) ≡ Some number →
    slice_get objects number ≡ Some (key, known) → known ≢ type → object_declared type objects word ≡ None
unfolding object_declared of_type guard
object_otherwise type objects word key number known h e apart =
    let other : nat_eq known type ≡ false = grind (arith, eqb-true known type) in
    rw (value_numbered objects (folded word) key number known h e, other) refl

pub objects_many : (type : ℕ) (objects : Objects) (word : List ℕ) → number_named objects (folded word) ≡ None → 65535 ≤ length objects →
    object_declared type objects word ≡ None
unfolding object_declared of_type guard
objects_many type objects word h le = rw (value_unnamed objects (folded word) h, le-ltb (length objects) 65535 le) refl

pub object_put_again : (type : ℕ) (objects : Objects) (word : List ℕ) (number known : ℕ) → number_named objects (folded word) ≡ Some number →
    slice_get objects number ≡ Some (folded word, known) → known ≡ type → object_declared type objects word ≡ Some (with_entry objects (folded word) type)
object_put_again type objects word number known h e is =
    let same : slice_get objects number ≡ Some (folded word, type) = e ∙ ap (λ t. Some (folded word, t)) is in
    object_again type objects word (folded word) number known h e is ∙ sym (ap Some (inserted_again objects (folded word) type number h same))

pub object_put : (type : ℕ) (objects : Objects) (word : List ℕ) → number_named objects (folded word) ≡ None → length objects < 65535 →
    object_declared type objects word ≡ Some (with_entry objects (folded word) type)
unfolding object_declared of_type guard
object_put type objects word h lt =
    let new : object_declared type objects word ≡ Some (objects ++ (folded word, type) ∷ []) =
    rw (value_unnamed objects (folded word) h, lt-ltb (length objects) 65535 lt) refl
    in
    new ∙ sym (ap Some (inserted_new objects (folded word) type h))

pub ruleset object_steps = (object_again, object_otherwise, objects_many, object_put_again, object_put)

pub names_item : {S : Type 0} (step : S → List ℕ → Option S) (state : S) (x : NameWord) (xs : List NameWord) →
    through step state (name_forms (x ∷ xs)) ≡ through_behind step (step state x.text.now) (name_forms xs)
unfolding name_forms
names_item step state x xs = through_item step state x.text.now (name_forms xs)

pub names_end : {S : Type 0} (step : S → List ℕ → Option S) (state : S) → through step state (name_forms []) ≡ Some state
unfolding name_forms
names_end step state = through_end step state

pub ruleset named_steps = (names_item, names_end)

pub group_unknown : (types : List (List ℕ)) (objects : Objects) (g : groups.NameGroup) → type_number types g.kind.text.now ≡ None →
    objects_grouped types objects (name_group_form g) ≡ None
unfolding objects_grouped objects_typed
group_unknown types objects g h = rw h refl

pub group_known : (types : List (List ℕ)) (objects : Objects) (g : groups.NameGroup) (type : ℕ) → type_number types g.kind.text.now ≡ Some type →
    objects_grouped types objects (name_group_form g) ≡ through (object_declared type) objects (name_forms g.names.items)
unfolding objects_grouped objects_typed
group_known types objects g type h = rw h refl

pub ruleset group_steps = (group_unknown, group_known)

pub groups_item : {S : Type 0} (step : S → NameGroup → Option S) (state : S) (x : groups.NameGroup) (xs : List groups.NameGroup) →
    through step state (name_groups (x ∷ xs)) ≡ through_behind step (step state (name_group_form x)) (name_groups xs)
unfolding name_groups
groups_item step state x xs = through_item step state (name_group_form x) (name_groups xs)

pub groups_end : {S : Type 0} (step : S → NameGroup → Option S) (state : S) → through step state (name_groups []) ≡ Some state
unfolding name_groups
groups_end step state = through_end step state

pub from_groups : (types : List (List ℕ)) (objects : Objects) (groups : List NameGroup) → objects_from types objects groups ≡ through (objects_grouped types) objects groups
unfolding objects_from
from_groups types objects groups = refl

pub ruleset groups_steps = (groups_item, groups_end, from_groups)
