-- The types that a domain of a smaller dialect declares are the same in a larger one.

use Rattle.std.proofs.Common.{◌≡◌, ℕ, ◌+◌, ◌-◌, ◌≤◌, ◌++◌, ◌⊎◌, inl, inr, suc, Bool, true, false, not, cond, List, [], ◌∷◌, map, Option, Some, None, unwrap_or, refl, ap, sym, ◌∙◌, subst, true≢false, arith, if◌then◌else◌}
use Rattle.std.proofs.lemmas.Bool.{not-false}
use Rattle.std.proofs.lemmas.Slice.Eq.{bytes_eq-Decides}
use Rattle.std.specs.List.{position_from, slice_get}
use Rattle.std.specs.Map.{keys_of, values_of, lookup}
use Rattle.std.specs.Option.{option_and_then}
use Rattle.std.specs.Str.{bytes_eq}
use Rattle.pddl_words.specs.Words.{folded}
use Rattle.strips_task.specs.Names.{number_named}
use Rattle.pddl_syntax.specs.declared.dialect.Dialect.TheVariants.{Strips, Ipc, Adl}
use Rattle.pddl_syntax.specs.Keywords.{object_word}
use Rattle.pddl_syntax.specs.Optional.{guard, through}
use Rattle.pddl_syntax.specs.Syntax.{NameGroup}
use Rattle.pddl_syntax.proofs.Guards.{guard_held}
use Rattle.pddl_reader.specs.declared.resolution.types.KnownTypes.{KnownTypes}
use Rattle.pddl_reader.specs.declared.resolution.types.TypeTables.{TypeTables}
use Rattle.pddl_reader.specs.Tables.{value_at, value_named}
use Rattle.pddl_reader.specs.TypeOrder.{TypeNames, TypeParents, numbered, under, counts_as_parent, declared_under, tables_of, type_declared, parent_numbered, group_declared, object_alone, types_declared, parent_name, parent_number, parents_of, is_tree, ordered, types_of}
use Rattle.pddl_reader.proofs.CycleLemmas.{put_together}

position-behind : {A : Type 0} (test : A → Bool) (xs : List A) (at n : ℕ) → position_from test at xs ≡ Some n → at ≤ n
position-behind test [] at n h = cc
position-behind test (x ∷ xs) at n h = by (λ e. position-behind test xs (at + 1) n e) (test x) h
  where
    by : (position_from test (at + 1) xs ≡ Some n → at + 1 ≤ n) → (found : Bool) → cond found (Some at) (position_from test (at + 1) xs) ≡ Some n → at ≤ n
    by rest true e = let same : at ≡ n = cc in omega (arith, same)
    by rest false e = let behind = rest e in omega arith

-- the value at a number that counts from another number
abbrev value-from : {V : Type 0} → ℕ → List V → Option ℕ → Option V
value-from at values None = None
value-from at values (Some n) = slice_get values (n - at)

value-looked_up : {V : Type 0} (name : List ℕ) (at : ℕ) (table : List (List ℕ × V)) →
    value-from at (values_of table) (position_from (bytes_eq name) at (keys_of table)) ≡ lookup (bytes_eq name) table
value-looked_up name at [] = refl
value-looked_up {V} name at ((key, v) ∷ entries) = by (value-looked_up name (at + 1) entries) (bytes_eq name key)
  where
    further : (found : Option ℕ) → ((n : ℕ) → found ≡ Some n → at + 1 ≤ n) → value-from at (v ∷ values_of entries) found ≡ value-from (at + 1) (values_of entries) found
    further None behind = refl
    further (Some n) behind =
        let le = behind n refl in
        let is : n - at ≡ suc (n - (at + 1)) = omega arith in
        ap (slice_get (v ∷ values_of entries)) is

    by : value-from (at + 1) (values_of entries) (position_from (bytes_eq name) (at + 1) (keys_of entries)) ≡ lookup (bytes_eq name) entries →
        (test : Bool) → value-from at (v ∷ values_of entries) (cond test (Some at) (position_from (bytes_eq name) (at + 1) (keys_of entries)))
        ≡ cond test (Some v) (lookup (bytes_eq name) entries)
    by rest true = let is : at - at ≡ 0 = omega arith in ap (slice_get (v ∷ values_of entries)) is
    by rest false =
        further (position_from (bytes_eq name) (at + 1) (keys_of entries)) (λ n. position-behind (bytes_eq name) (keys_of entries) (at + 1) n) ∙ rest

-- the value of a name is that of the first entry with the name
named-lookup : {V : Type 0} (table : List (List ℕ × V)) (name : List ℕ) → value_named table name ≡ lookup (bytes_eq name) table
unfolding value_named value_at number_named
named-lookup {V} table name = by (number_named table name) ∙ value-looked_up name 0 table
  where
    by : (found : Option ℕ) → value_at table found ≡ value-from 0 (values_of table) found
    by None = refl
    by (Some n) = let is : n ≡ n - 0 = omega arith in ap (slice_get (values_of table)) is

-- the first of two, if there is one
abbrev or-else : {V : Type 0} → Option V → Option V → Option V
or-else (Some v) other = Some v
or-else None other = other

lookup-pushed : {V : Type 0} (test : List ℕ → Bool) (entries : List (List ℕ × V)) (key : List ℕ) (v : V) →
    lookup test (entries ++ (key, v) ∷ []) ≡ or-else (lookup test entries) (cond (test key) (Some v) None)
lookup-pushed test [] key v = refl
lookup-pushed {V} test ((first, w) ∷ entries) key v = by (lookup-pushed test entries key v) (test first)
  where
    by : lookup test (entries ++ (key, v) ∷ []) ≡ or-else (lookup test entries) (cond (test key) (Some v) None) → (found : Bool) → cond found (Some w) (lookup test (entries ++ (key, v) ∷ [])) ≡ or-else (cond found (Some w) (lookup test entries)) (cond (test key) (Some v) None)
    by rest true = refl
    by rest false = rest

-- a parent by the tables of the two dialects: `object` need not be said in the larger
abbrev Agree : Option (List ℕ) → Option (List ℕ) → Type 0
Agree told kept = (kept ≡ told) ⊎ ((told ≡ Some object_word) × (kept ≡ None))

abbrev AgreeOn : TypeParents → TypeParents → Type 0
AgreeOn told kept = (name : List ℕ) → Agree (lookup (bytes_eq name) told) (lookup (bytes_eq name) kept)

record AgreeBoth (told kept : TypeTables) : Type 0 where
  names : kept.names ≡ told.names
  parents : AgreeOn told.parents kept.parents

eq-refl : (name : List ℕ) → bytes_eq name name ≡ true
eq-refl name = (bytes_eq-Decides name name).1 refl

-- a declaration under `object` that the larger dialect leaves out
idle-pushed : (told kept : TypeParents) (name : List ℕ) → lookup (bytes_eq name) told ≡ None → AgreeOn told kept → AgreeOn (told ++ (name, object_word) ∷ []) kept
idle-pushed told kept name new agree other =
    subst (λ now. Agree now (lookup (bytes_eq other) kept)) (sym (lookup-pushed (bytes_eq other) told name object_word)) (by (lookup (bytes_eq other) told) (agree other) (bytes_eq other name))
  where
    by : (before : Option (List ℕ)) → Agree before (lookup (bytes_eq other) kept) → (test : Bool) → Agree (or-else before (cond test (Some object_word) None)) (lookup (bytes_eq other) kept)
    by (Some parent) had test = had
    by None (inl same) true = inr (refl, same)
    by None (inl same) false = inl same
    by None (inr had) test = let no = had.0 in cc

-- a declaration that both keep
both-pushed : (told kept : TypeParents) (name parent : List ℕ) → lookup (bytes_eq name) told ≡ None → AgreeOn told kept →
    AgreeOn (told ++ (name, parent) ∷ []) (kept ++ (name, parent) ∷ [])
both-pushed told kept name parent new agree other =
    subst (λ now. Agree now (lookup (bytes_eq other) (kept ++ (name, parent) ∷ []))) (sym (lookup-pushed (bytes_eq other) told name parent))
    (subst (λ now. Agree (or-else (lookup (bytes_eq other) told) (cond (bytes_eq other name) (Some parent) None)) now) (sym (lookup-pushed (bytes_eq other) kept name parent))
    (by (lookup (bytes_eq other) told) (lookup (bytes_eq other) kept) (agree other) (bytes_eq other name) refl refl))
  where
    by : (before after : Option (List ℕ)) → Agree before after → (test : Bool) → bytes_eq other name ≡ test → lookup (bytes_eq other) told ≡ before →
        Agree (or-else before (cond test (Some parent) None)) (or-else after (cond test (Some parent) None))
    by before after (inl same) test is had = inl (ap (λ o. or-else o (cond test (Some parent) None)) same)
    by before after (inr one) true is had =
        let equal : other ≡ name = (bytes_eq-Decides other name).0 is in
        let none : before ≡ None = sym had ∙ ap (λ n. lookup (bytes_eq n) told) equal ∙ new in
        let some = one.0 in cc
    by before after (inr one) false is had =
        inr (ap (λ o. or-else o None) one.0, ap (λ o. or-else o None) one.1)

-- declared in STRIPS, a type is declared in the larger dialect, and the tables agree
under-kept : (told next kept : TypeParents) (name parent : List ℕ) → AgreeOn told kept → under (lookup (bytes_eq name) told) told name parent ≡ Some next →
    (counts : Bool) → counts_as_parent Ipc parent ≡ counts →
    (after : TypeParents) × ((if counts then under (lookup (bytes_eq name) kept) kept name parent else Some kept) ≡ Some after) × AgreeOn next after
unfolding under counts_as_parent guard
under-kept told next kept name parent agree h counts is = by (lookup (bytes_eq name) told) refl (lookup (bytes_eq name) kept) refl (agree name) h counts is
  where
    by : (before : Option (List ℕ)) → lookup (bytes_eq name) told ≡ before → (other : Option (List ℕ)) → lookup (bytes_eq name) kept ≡ other → Agree before other →
        under before told name parent ≡ Some next → (counts : Bool) → counts_as_parent Ipc parent ≡ counts →
        (after : TypeParents) × ((if counts then under other kept name parent else Some kept) ≡ Some after) × AgreeOn next after
    by None had other found one e false idle =
        let same : told ++ (name, parent) ∷ [] ≡ next = cc in
        let top : parent ≡ object_word = (bytes_eq-Decides parent object_word).0 (not-false (bytes_eq parent object_word) idle) in
        (kept, refl, subst (λ ps. AgreeOn ps kept) (ap (λ p. told ++ (name, p) ∷ []) (sym top) ∙ same) (idle-pushed told kept name had agree))
    by None had None found one e true counted =
        let same : told ++ (name, parent) ∷ [] ≡ next = cc in
        (kept ++ (name, parent) ∷ [], refl, subst (λ ps. AgreeOn ps (kept ++ (name, parent) ∷ [])) same (both-pushed told kept name parent had agree))
    by None had (Some known) found (inl same) e true counted = cc
    by None had (Some known) found (inr one) e true counted = let no = one.0 in cc
    by (Some known) had other found one e false idle =
        let held = guard_held (bytes_eq known parent) told next e in
        (kept, refl, subst (λ ps. AgreeOn ps kept) held.1 agree)
    by (Some known) had (Some also) found (inl same) e true counted =
        let held = guard_held (bytes_eq known parent) told next e in
        let equal : also ≡ known = cc in
        (kept, ap (λ k. guard (bytes_eq k parent) (Some kept)) equal ∙ ap (λ b. guard b (Some kept)) held.0, subst (λ ps. AgreeOn ps kept) held.1 agree)
    by (Some known) had None found (inl same) e true counted = cc
    by (Some known) had other found (inr one) e true counted =
        let held = guard_held (bytes_eq known parent) told next e in
        let known_is : known ≡ object_word = let s = one.0 in cc in
        let parent_is : known ≡ parent = (bytes_eq-Decides known parent).0 held.0 in
        absurd (true≢false (sym counted ∙ ap (counts_as_parent Ipc) (sym parent_is ∙ known_is) ∙ ap not (eq-refl object_word)))

tables-made : (names : TypeNames) (parents : TypeParents) (one : Option TypeNames) (other : Option TypeParents) → one ≡ Some names → other ≡ Some parents →
    tables_of one other ≡ Some (record { names = names; parents = parents })
unfolding tables_of
tables-made names parents one other e f = rw (e, f) refl

-- a step of STRIPS is one of the larger dialect, and what agrees agrees behind it
abbrev Follows : {X : Type 0} → (TypeTables → X → Option TypeTables) → (TypeTables → X → Option TypeTables) → Type 0
Follows {X} step other = (told kept next : TypeTables) (x : X) → AgreeBoth told kept → step told x ≡ Some next → (after : TypeTables) × (other kept x ≡ Some after) × AgreeBoth next after

through-follows : {X : Type 0} (step other : TypeTables → X → Option TypeTables) → Follows step other → (xs : List X) (told kept next : TypeTables) → AgreeBoth told kept →
    through step told xs ≡ Some next → (after : TypeTables) × (through other kept xs ≡ Some after) × AgreeBoth next after
unfolding through
through-follows step other follows [] told kept next agree h = let same : told ≡ next = cc in (kept, refl, subst (λ t. AgreeBoth t kept) same agree)
through-follows {X} step other follows (x ∷ xs) told kept next agree h =
    by (λ one also both e. through-follows step other follows xs one also next both e) (step told x) refl h
  where
    by : ((one also : TypeTables) → AgreeBoth one also → through step one xs ≡ Some next → (after : TypeTables) × (through other also xs ≡ Some after) × AgreeBoth next after) →
        (found : Option TypeTables) → step told x ≡ found → option_and_then (λ state. through step state xs) found ≡ Some next →
        (after : TypeTables) × (option_and_then (λ state. through other state xs) (other kept x) ≡ Some after) × AgreeBoth next after
    by behind None is e = cc
    by behind (Some one) is e =
        let first = follows told kept one x agree is in
        let rest = behind one first.0 first.2 e in
        (rest.0, ap (option_and_then (λ state. through other state xs)) first.1 ∙ rest.1, rest.2)

type-follows : (parent : List ℕ) → Follows (type_declared Strips parent) (type_declared Ipc parent)
unfolding type_declared declared_under counts_as_parent
type-follows parent told kept next word agree h =
    let parts = put_together (numbered told.names (folded word)) (under (value_named told.parents (folded word)) told.parents (folded word) (folded parent)) next h in
    let step = sym (ap (λ o. under o told.parents (folded word) (folded parent)) (named-lookup told.parents (folded word))) ∙ parts.1 in
    let found = under-kept told.parents next.parents kept.parents (folded word) (folded parent) agree.parents step (counts_as_parent Ipc (folded parent)) refl in
    let named : numbered kept.names (folded word) ≡ Some next.names = ap (λ ns. numbered ns (folded word)) agree.names ∙ parts.0 in
    let declared = ap (λ o. if counts_as_parent Ipc (folded parent) then under o kept.parents (folded word) (folded parent) else Some kept.parents) (named-lookup kept.parents (folded word)) ∙ found.1 in
    (record { names = next.names; parents = found.0 }, tables-made next.names found.0 _ _ named declared, record { names = refl; parents = found.2 })

parent-follows : (parent : List ℕ) (told kept next : TypeTables) → AgreeBoth told kept → parent_numbered parent (Some told) ≡ Some next →
    (after : TypeTables) × (parent_numbered parent (Some kept) ≡ Some after) × AgreeBoth next after
unfolding parent_numbered
parent-follows parent told kept next agree h =
    let parts = put_together (numbered told.names (folded parent)) (Some told.parents) next h in
    let same : told.parents ≡ next.parents = let q = parts.1 in cc in
    let named : numbered kept.names (folded parent) ≡ Some next.names = ap (λ ns. numbered ns (folded parent)) agree.names ∙ parts.0 in
    (record { names = next.names; parents = kept.parents }, tables-made next.names kept.parents _ _ named refl, record { names = refl; parents = subst (λ ps. AgreeOn ps kept.parents) same agree.parents })

no-parent : (parent : List ℕ) → parent_numbered parent None ≡ None
unfolding parent_numbered
no-parent parent = refl

group-follows : Follows (group_declared Strips) (group_declared Ipc)
unfolding group_declared
group-follows told kept next group agree h = by (through (type_declared Strips group.type) told group.names) refl h
  where
    by : (found : Option TypeTables) → through (type_declared Strips group.type) told group.names ≡ found → parent_numbered group.type found ≡ Some next →
        (after : TypeTables) × (parent_numbered group.type (through (type_declared Ipc group.type) kept group.names) ≡ Some after) × AgreeBoth next after
    by None is e = let no = sym (no-parent group.type) ∙ e in cc
    by (Some one) is e =
        let first = through-follows (type_declared Strips group.type) (type_declared Ipc group.type) (type-follows group.type) group.names told kept one agree is in
        let rest = parent-follows group.type one first.0 next first.2 e in
        (rest.0, ap (parent_numbered group.type) first.1 ∙ rest.1, rest.2)

same-parent : (told kept : TypeTables) → AgreeBoth told kept → (name : List ℕ) → parent_number kept name ≡ parent_number told name
unfolding parent_number parent_name
same-parent told kept agree name =
    ap (λ n. unwrap_or (number_named kept.names n) 0) (by (value_named told.parents name) (value_named kept.parents name)
    (subst (λ o. Agree o (value_named kept.parents name)) (sym (named-lookup told.parents name)) (subst (Agree (lookup (bytes_eq name) told.parents)) (sym (named-lookup kept.parents name)) (agree.parents name))))
    ∙ ap (λ ns. unwrap_or (number_named ns (unwrap_or (value_named told.parents name) object_word)) 0) agree.names
  where
    by : (before after : Option (List ℕ)) → Agree before after → unwrap_or after object_word ≡ unwrap_or before object_word
    by before after (inl same) = ap (λ o. unwrap_or o object_word) same
    by before after (inr one) = ap (λ o. unwrap_or o object_word) one.1 ∙ sym (ap (λ o. unwrap_or o object_word) one.0)

same-map : {A B : Type 0} (f g : A → B) → ((x : A) → f x ≡ g x) → (xs : List A) → map f xs ≡ map g xs
same-map f g same [] = refl
same-map f g same (x ∷ xs) = λ i. same x i ∷ same-map f g same xs i

same-parents : (told kept : TypeTables) → AgreeBoth told kept → parents_of kept ≡ parents_of told
unfolding parents_of
same-parents told kept agree =
    same-map (λ entry. parent_number kept entry.0) (λ entry. parent_number told entry.0) (λ entry. same-parent told kept agree entry.0) kept.names
    ∙ ap (map (λ entry. parent_number told entry.0)) agree.names

-- the types of STRIPS are those of the larger dialect
pub types_kept : (groups : List NameGroup) (types : KnownTypes) → types_of Strips groups ≡ Some types → types_of Ipc groups ≡ Some types
unfolding types_of types_declared ordered
types_kept groups types h = by (through (group_declared Strips) object_alone groups) refl h
  where
    by : (found : Option TypeTables) → through (group_declared Strips) object_alone groups ≡ found → ordered found ≡ Some types →
        ordered (through (group_declared Ipc) object_alone groups) ≡ Some types
    by None is e = cc
    by (Some told) is e =
        let kept = through-follows (group_declared Strips) (group_declared Ipc) group-follows groups object_alone object_alone told (record { names = refl; parents = λ name. inl refl }) is in
        ap ordered kept.1
        ∙ ap (λ ps. guard (is_tree ps) (Some (record { names = kept.0.names; parents = ps }))) (same-parents told kept.0 kept.2)
        ∙ ap (λ ns. guard (is_tree (parents_of told)) (Some (record { names = ns; parents = parents_of told }))) kept.2.names
        ∙ e

-- the types of `ipc` are those of `adl`
pub same_types : (groups : List NameGroup) → types_of Adl groups ≡ types_of Ipc groups
unfolding types_of types_declared group_declared type_declared declared_under counts_as_parent
same_types groups = refl
