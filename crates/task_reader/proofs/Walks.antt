-- Walks over formulas and effects count their quantifiers one after the other.

use Rattle.std.proofs.Common.{◌≡◌, ℕ, ◌+◌, ◌-◌, ◌<◌, ◌≤◌, ◌^◌, min, nat_lt, Bool, true, false, cond, List, [], ◌∷◌, ◌++◌, refl, sym, ap, ◌∙◌, length, map, drop, get_or, arith, Result, Ok, Err, Some}
use Rattle.std.specs.List.{flat_map}
use Rattle.std.proofs.lemmas.Bool.{lt-ltb, le-ltb, ltb-false}
use Rattle.std.proofs.lemmas.List.{length-map, map-append}
use Rattle.formulas.specs.Variables.{variable_types}
use Rattle.task_reader.specs.Objects.{object_count}
use Rattle.formulas.specs.declared.variables.VariableGroup.{VariableGroup}
use Rattle.formulas.specs.EffectTree.{EffectTree, change, joint, conditional, universal, EffectParts, no_effects, effect_part, effect_parts_of}
use Rattle.formulas.specs.Tree.{Tree, atom, equality, negation, conjunction, disjunction, implication, exists, for_all, Parts, no_parts, part, parts_of}
use Rattle.strips_task.specs.declared.tasks.TaskParts.{TaskParts}
use Rattle.task_reader.specs.declared.bindings.Tally.{Tally}
use Rattle.task_reader.specs.Bindings.{Quantifier, added, bindings, choices_for, effect_part_quantifiers, effect_quantifiers, first_past, in_64_bits, most_bindings, nothing_counted, part_quantifiers, past, quantifier_of, quantifiers, times, unless_past, variable_past, with_quantifier, with_quantifiers}
use Rattle.task_reader.specs.Capped.{capped}
use Rattle.task_reader.proofs.Capping.{capped_added, capped_first, capped_times, capped_twice, same_below, same_capped}
use Rattle.task_reader.proofs.Lists.{left}

-- the same step whether or not what a quantifier adds is capped
step : ℕ → ℕ → ℕ → ℕ → ℕ → Result Tally ℕ
step counted variables more index count =
    cond (nat_lt most_bindings (counted + more)) (Err (in_64_bits (variables + index)))
    (Ok (record { bindings = counted + more; variables = in_64_bits (variables + count) }))

same_step : (counted variables more other index count : ℕ) → capped more ≡ capped other → step counted variables more index count ≡ step counted variables other index count
unfolding step
same_step counted variables more other index count same = by (nat_lt most_bindings (counted + other)) refl
  where
    choose : Bool → ℕ → Result Tally ℕ
    choose b n = cond b (Err (in_64_bits (variables + index))) (Ok (record { bindings = counted + n; variables = in_64_bits (variables + count) }))

    by : (b : Bool) → nat_lt most_bindings (counted + other) ≡ b → choose (nat_lt most_bindings (counted + more)) more ≡ choose (nat_lt most_bindings (counted + other)) other
    by true e = ap (λ b. choose b more) (same_capped counted more other same ∙ e) ∙ sym (ap (λ b. choose b other) e)
    by false e =
        let equal : more ≡ other = same_below counted more other same (ltb-false most_bindings (counted + other) e) in
        ap (λ n. choose (nat_lt most_bindings (counted + n)) n) equal

-- a quantifier with capped bindings around it
cap : Quantifier → Quantifier
cap quantifier = record { around = capped quantifier.around; choices = quantifier.choices }

same_quantifier : (tally : Tally) (quantifier : Quantifier) → with_quantifier tally (cap quantifier) ≡ with_quantifier tally quantifier
unfolding with_quantifier step cap
same_quantifier tally quantifier =
    same_step tally.bindings tally.variables (added (capped quantifier.around) quantifier.choices) (added quantifier.around quantifier.choices)
    (first_past tally.bindings (capped quantifier.around) quantifier.choices) (length quantifier.choices) (capped_added quantifier.choices quantifier.around)
    ∙ ap (λ index. step tally.bindings tally.variables (added quantifier.around quantifier.choices) index (length quantifier.choices))
    (capped_first tally.bindings quantifier.choices quantifier.around)

same_next : (result : Result Tally ℕ) (f g : Tally → Result Tally ℕ) → ((tally : Tally) → f tally ≡ g tally) → unless_past result f ≡ unless_past result g
unfolding unless_past
same_next (Ok tally) f g same = same tally
same_next (Err variable) f g same = refl

same_quantifiers : (list : List Quantifier) (tally : Tally) → with_quantifiers tally (map cap list) ≡ with_quantifiers tally list
same_quantifiers [] tally = refl
same_quantifiers (quantifier ∷ list) tally =
    ap (λ result. unless_past result (λ next. with_quantifiers next (map cap list))) (same_quantifier tally quantifier)
    ∙ same_next (with_quantifier tally quantifier) (λ next. with_quantifiers next (map cap list)) (λ next. with_quantifiers next list) (λ next. same_quantifiers list next)

-- one list after the other
append_next : (xs ys : List Quantifier) (tally : Tally) → with_quantifiers tally (xs ++ ys) ≡ unless_past (with_quantifiers tally xs) (λ next. with_quantifiers next ys)
unfolding unless_past
append_next [] ys tally = refl
append_next (x ∷ xs) ys tally =
    same_next (with_quantifier tally x) (λ next. with_quantifiers next (xs ++ ys)) (λ next. unless_past (with_quantifiers next xs) (λ last. with_quantifiers last ys)) (λ next. append_next xs ys next)
    ∙ twice (with_quantifier tally x)
  where
    twice : (result : Result Tally ℕ) → unless_past result (λ next. unless_past (with_quantifiers next xs) (λ last. with_quantifiers last ys))
        ≡ unless_past (unless_past result (λ next. with_quantifiers next xs)) (λ last. with_quantifiers last ys)
    twice (Ok next) = refl
    twice (Err variable) = refl

pub goes_on : (tally next : Tally) (xs ys : List Quantifier) → Ok next ≡ with_quantifiers tally xs → with_quantifiers tally (xs ++ ys) ≡ with_quantifiers next ys
unfolding unless_past
goes_on tally next xs ys is = append_next xs ys tally ∙ sym (ap (λ result. unless_past result (λ last. with_quantifiers last ys)) is)

pub stops : (tally : Tally) (variable : ℕ) (xs ys : List Quantifier) → Err variable ≡ with_quantifiers tally xs → with_quantifiers tally (xs ++ ys) ≡ Err variable
unfolding unless_past
stops tally variable xs ys is = append_next xs ys tally ∙ sym (ap (λ result. unless_past result (λ last. with_quantifiers last ys)) is)

pub first_goes_on : (tally next : Tally) (x : Quantifier) (xs : List Quantifier) → Ok next ≡ with_quantifier tally x → with_quantifiers tally (x ∷ xs) ≡ with_quantifiers next xs
unfolding unless_past
first_goes_on tally next x xs is = sym (ap (λ result. unless_past result (λ last. with_quantifiers last xs)) is)

pub first_stops : (tally : Tally) (variable : ℕ) (x : Quantifier) (xs : List Quantifier) → Err variable ≡ with_quantifier tally x → with_quantifiers tally (x ∷ xs) ≡ Err variable
unfolding unless_past
first_stops tally variable x xs is = sym (ap (λ result. unless_past result (λ last. with_quantifiers last xs)) is)

module _ (task : TaskParts) where
  -- the list of a formula's parts
  pub part_list : (around : ℕ) (trees : List Tree) → part_quantifiers task around (parts_of trees) ≡ flat_map (quantifiers task around) trees
  part_list around [] = refl
  part_list around (tree ∷ trees) = ap (λ others. quantifiers task around tree ++ others) (part_list around trees)

  pub effect_list : (around : ℕ) (effects : List EffectTree) → effect_part_quantifiers task around (effect_parts_of effects) ≡ flat_map (effect_quantifiers task around) effects
  effect_list around [] = refl
  effect_list around (effect ∷ effects) = ap (λ others. effect_quantifiers task around effect ++ others) (effect_list around effects)

  two : (xs ys us vs : List Quantifier) → map cap xs ≡ map cap us → map cap ys ≡ map cap vs → map cap (xs ++ ys) ≡ map cap (us ++ vs)
  two xs ys us vs first second = map-append cap xs ys ∙ (λ j. first j ++ second j) ∙ sym (map-append cap us vs)

  inner : (inside : ℕ → List Quantifier) → ((a : ℕ) → map cap (inside (capped a)) ≡ map cap (inside a)) → (groups : List VariableGroup) (a : ℕ)
      → map cap (quantifier_of task (capped a) groups ∷ inside (bindings (quantifier_of task (capped a) groups)))
      ≡ map cap (quantifier_of task a groups ∷ inside (bindings (quantifier_of task a groups)))
  unfolding cap
  inner inside same groups a =
      let counts = choices_for task groups in
      let rest : map cap (inside (times (capped a) counts)) ≡ map cap (inside (times a counts)) =
      sym (same (times (capped a) counts)) ∙ ap (λ n. map cap (inside n)) (capped_times counts a) ∙ same (times a counts) in
      λ j. record { around = capped_twice a j; choices = counts } ∷ rest j

  mutual
    capped_around : (tree : Tree) (a : ℕ) → map cap (quantifiers task (capped a) tree) ≡ map cap (quantifiers task a tree)
    capped_around (atom positive pattern) a = refl
    capped_around (equality positive left right) a = refl
    capped_around (negation tree) a = capped_around tree a
    capped_around (conjunction parts) a = capped_parts parts a
    capped_around (disjunction parts) a = capped_parts parts a
    capped_around (implication premise conclusion) a =
        two (quantifiers task (capped a) premise) (quantifiers task (capped a) conclusion) (quantifiers task a premise) (quantifiers task a conclusion)
        (capped_around premise a) (capped_around conclusion a)
    capped_around (exists groups body) a = inner (λ n. quantifiers task n body) (λ n. capped_around body n) groups a
    capped_around (for_all groups body) a = inner (λ n. quantifiers task n body) (λ n. capped_around body n) groups a

    capped_parts : (parts : Parts) (a : ℕ) → map cap (part_quantifiers task (capped a) parts) ≡ map cap (part_quantifiers task a parts)
    capped_parts no_parts a = refl
    capped_parts (part tree parts) a =
        two (quantifiers task (capped a) tree) (part_quantifiers task (capped a) parts) (quantifiers task a tree) (part_quantifiers task a parts)
        (capped_around tree a) (capped_parts parts a)

  mutual
    capped_effect : (effect : EffectTree) (a : ℕ) → map cap (effect_quantifiers task (capped a) effect) ≡ map cap (effect_quantifiers task a effect)
    capped_effect (change positive pattern) a = refl
    capped_effect (joint parts) a = capped_effects parts a
    capped_effect (conditional condition effect) a =
        two (quantifiers task (capped a) condition) (effect_quantifiers task (capped a) effect) (quantifiers task a condition) (effect_quantifiers task a effect)
        (capped_around condition a) (capped_effect effect a)
    capped_effect (universal groups effect) a = inner (λ n. effect_quantifiers task n effect) (λ n. capped_effect effect n) groups a

    capped_effects : (parts : EffectParts) (a : ℕ) → map cap (effect_part_quantifiers task (capped a) parts) ≡ map cap (effect_part_quantifiers task a parts)
    capped_effects no_effects a = refl
    capped_effects (effect_part effect parts) a =
        two (effect_quantifiers task (capped a) effect) (effect_part_quantifiers task (capped a) parts) (effect_quantifiers task a effect) (effect_part_quantifiers task a parts)
        (capped_effect effect a) (capped_effects parts a)

  -- inside a quantifier, its capped bindings do
  pub body_capped : (tally : Tally) (tree : Tree) (a : ℕ) → with_quantifiers tally (quantifiers task (capped a) tree) ≡ with_quantifiers tally (quantifiers task a tree)
  body_capped tally tree a =
      sym (same_quantifiers (quantifiers task (capped a) tree) tally) ∙ ap (with_quantifiers tally) (capped_around tree a) ∙ same_quantifiers (quantifiers task a tree) tally

  pub effect_capped : (tally : Tally) (effect : EffectTree) (a : ℕ) → with_quantifiers tally (effect_quantifiers task (capped a) effect) ≡ with_quantifiers tally (effect_quantifiers task a effect)
  effect_capped tally effect a =
      sym (same_quantifiers (effect_quantifiers task (capped a) effect) tally) ∙ ap (with_quantifiers tally) (capped_effect effect a)
      ∙ same_quantifiers (effect_quantifiers task a effect) tally

  pub implied_on : (tally next : Tally) (around : ℕ) (whole p c premise conclusion : Tree) → whole ≡ implication p c → premise ≡ p → conclusion ≡ c
      → Ok next ≡ with_quantifiers tally (quantifiers task around premise)
      → with_quantifiers next (quantifiers task around conclusion) ≡ with_quantifiers tally (quantifiers task around whole)
  implied_on tally next around whole p c premise conclusion is first second h =
      sym (goes_on tally next (quantifiers task around premise) (quantifiers task around conclusion) h)
      ∙ (λ j. with_quantifiers tally (quantifiers task around (first j) ++ quantifiers task around (second j)))
      ∙ ap (λ tree. with_quantifiers tally (quantifiers task around tree)) (sym is)

  pub implied_stops : (tally : Tally) (variable around : ℕ) (whole p c premise : Tree) → whole ≡ implication p c → premise ≡ p
      → Err variable ≡ with_quantifiers tally (quantifiers task around premise) → Err variable ≡ with_quantifiers tally (quantifiers task around whole)
  implied_stops tally variable around whole p c premise is first h =
      sym (stops tally variable (quantifiers task around premise) (quantifiers task around c) h)
      ∙ (λ j. with_quantifiers tally (quantifiers task around (first j) ++ quantifiers task around c))
      ∙ ap (λ tree. with_quantifiers tally (quantifiers task around tree)) (sym is)

  pub all_parts : (tally : Tally) (around : ℕ) (whole : Tree) (trees these : List Tree) → whole ≡ conjunction (parts_of trees) → these ≡ trees
      → with_quantifiers tally (flat_map (quantifiers task around) these) ≡ with_quantifiers tally (quantifiers task around whole)
  all_parts tally around whole trees these is same =
      ap (λ list. with_quantifiers tally (flat_map (quantifiers task around) list)) same
      ∙ ap (with_quantifiers tally) (sym (part_list around trees)) ∙ ap (λ tree. with_quantifiers tally (quantifiers task around tree)) (sym is)

  pub some_parts : (tally : Tally) (around : ℕ) (whole : Tree) (trees these : List Tree) → whole ≡ disjunction (parts_of trees) → these ≡ trees
      → with_quantifiers tally (flat_map (quantifiers task around) these) ≡ with_quantifiers tally (quantifiers task around whole)
  some_parts tally around whole trees these is same =
      ap (λ list. with_quantifiers tally (flat_map (quantifiers task around) list)) same
      ∙ ap (with_quantifiers tally) (sym (part_list around trees)) ∙ ap (λ tree. with_quantifiers tally (quantifiers task around tree)) (sym is)

  pub all_effects : (tally : Tally) (around : ℕ) (whole : EffectTree) (effects these : List EffectTree) → whole ≡ joint (effect_parts_of effects) → these ≡ effects
      → with_quantifiers tally (flat_map (effect_quantifiers task around) these) ≡ with_quantifiers tally (effect_quantifiers task around whole)
  all_effects tally around whole effects these is same =
      ap (λ list. with_quantifiers tally (flat_map (effect_quantifiers task around) list)) same
      ∙ ap (with_quantifiers tally) (sym (effect_list around effects)) ∙ ap (λ effect. with_quantifiers tally (effect_quantifiers task around effect)) (sym is)

  pub bound_on : (tally next : Tally) (around inside : ℕ) (groups : List VariableGroup) (body : Tree) → inside ≡ capped (times around (choices_for task groups))
      → Ok next ≡ with_quantifier tally (quantifier_of task around groups)
      → with_quantifiers next (quantifiers task inside body)
      ≡ with_quantifiers tally (quantifier_of task around groups ∷ quantifiers task (bindings (quantifier_of task around groups)) body)
  bound_on tally next around inside groups body is h =
      ap (λ n. with_quantifiers next (quantifiers task n body)) is ∙ body_capped next body (times around (choices_for task groups))
      ∙ sym (first_goes_on tally next (quantifier_of task around groups) (quantifiers task (bindings (quantifier_of task around groups)) body) h)

  pub when_on : (tally next : Tally) (around : ℕ) (whole e effect : EffectTree) (condition : Tree) → whole ≡ conditional condition e → effect ≡ e
      → Ok next ≡ with_quantifiers tally (quantifiers task around condition)
      → with_quantifiers next (effect_quantifiers task around effect) ≡ with_quantifiers tally (effect_quantifiers task around whole)
  when_on tally next around whole e effect condition is same h =
      sym (goes_on tally next (quantifiers task around condition) (effect_quantifiers task around effect) h)
      ∙ ap (λ effect. with_quantifiers tally (quantifiers task around condition ++ effect_quantifiers task around effect)) same
      ∙ ap (λ effect. with_quantifiers tally (effect_quantifiers task around effect)) (sym is)

  pub when_stops : (tally : Tally) (variable around : ℕ) (whole e : EffectTree) (condition : Tree) → whole ≡ conditional condition e
      → Err variable ≡ with_quantifiers tally (quantifiers task around condition) → Err variable ≡ with_quantifiers tally (effect_quantifiers task around whole)
  when_stops tally variable around whole e condition is h =
      sym (stops tally variable (quantifiers task around condition) (effect_quantifiers task around e) h)
      ∙ ap (λ effect. with_quantifiers tally (effect_quantifiers task around effect)) (sym is)

  pub for_all_on : (tally next : Tally) (around inside : ℕ) (whole e effect : EffectTree) (groups these those : List VariableGroup) → whole ≡ universal groups e → effect ≡ e
      → these ≡ groups → those ≡ groups → inside ≡ capped (times around (choices_for task those)) → Ok next ≡ with_quantifier tally (quantifier_of task around these)
      → with_quantifiers next (effect_quantifiers task inside effect) ≡ with_quantifiers tally (effect_quantifiers task around whole)
  for_all_on tally next around inside whole e effect groups these those is same same_these same_those capping h =
      (λ j. with_quantifiers next (effect_quantifiers task (capping j) (same j)))
      ∙ ap (λ groups. with_quantifiers next (effect_quantifiers task (capped (times around (choices_for task groups))) e)) same_those
      ∙ effect_capped next e (times around (choices_for task groups))
      ∙ sym (first_goes_on tally next (quantifier_of task around groups) (effect_quantifiers task (bindings (quantifier_of task around groups)) e)
      (h ∙ ap (λ groups. with_quantifier tally (quantifier_of task around groups)) same_these))
      ∙ ap (λ effect. with_quantifiers tally (effect_quantifiers task around effect)) (sym is)

  pub for_all_stops : (tally : Tally) (variable around : ℕ) (whole e : EffectTree) (groups these : List VariableGroup) → whole ≡ universal groups e → these ≡ groups
      → Err variable ≡ with_quantifier tally (quantifier_of task around these) → Err variable ≡ with_quantifiers tally (effect_quantifiers task around whole)
  for_all_stops tally variable around whole e groups these is same h =
      sym (first_stops tally variable (quantifier_of task around groups) (effect_quantifiers task (bindings (quantifier_of task around groups)) e)
      (h ∙ ap (λ groups. with_quantifier tally (quantifier_of task around groups)) same))
      ∙ ap (λ effect. with_quantifiers tally (effect_quantifiers task around effect)) (sym is)

-- the next of several formulas or effects
module _ {X : Type 0} (f : X → List Quantifier) (xs : List X) (i : ℕ) (x : X) (lt : i < length xs) (is : x ≡ get_or xs i x) (tally : Tally) (whole : Result Tally ℕ)
    (so_far : with_quantifiers tally (flat_map f (drop i xs)) ≡ whole) where
  pub list_on : (next : Tally) → Ok next ≡ with_quantifiers tally (f x) → with_quantifiers next (flat_map f (drop (i + 1) xs)) ≡ whole
  list_on next h =
      sym (goes_on tally next (f x) (flat_map f (drop (i + 1) xs)) h) ∙ ap (λ list. with_quantifiers tally (flat_map f list)) (sym (left xs i x lt is)) ∙ so_far

  pub list_stops : (variable : ℕ) → Err variable ≡ with_quantifiers tally (f x) → Err variable ≡ whole
  list_stops variable h =
      sym (stops tally variable (f x) (flat_map f (drop (i + 1) xs)) h) ∙ ap (λ list. with_quantifiers tally (flat_map f list)) (sym (left xs i x lt is)) ∙ so_far

-- one more quantifier
module _ (tally : Tally) (quantifier : Quantifier) (more total : ℕ) (is_more : more ≡ capped (added quantifier.around quantifier.choices))
    (is_total : total ≡ min (tally.bindings + more) (2 ^ 64 - 1)) where
  pub quantifier_past : 16777216 < total → (index : ℕ) → index ≡ in_64_bits (tally.variables + first_past tally.bindings quantifier.around quantifier.choices)
      → Err index ≡ with_quantifier tally quantifier
  unfolding with_quantifier capped
  quantifier_past large index is =
      let high : nat_lt most_bindings (tally.bindings + added quantifier.around quantifier.choices) ≡ true =
      lt-ltb most_bindings (tally.bindings + added quantifier.around quantifier.choices) (omega (arith, is_more, is_total, large)) in
      ap Err is ∙ sym (ap (λ b. cond b (Err (in_64_bits (tally.variables + first_past tally.bindings quantifier.around quantifier.choices)))
      (Ok (record { bindings = tally.bindings + added quantifier.around quantifier.choices; variables = in_64_bits (tally.variables + length quantifier.choices) }))) high)

  pub quantifier_counted : total ≤ 16777216 → (variables : ℕ) → variables ≡ in_64_bits (tally.variables + length quantifier.choices)
      → Ok (record { bindings = total; variables = variables }) ≡ with_quantifier tally quantifier
  unfolding with_quantifier capped
  quantifier_counted small variables is =
      let sum : total ≡ tally.bindings + added quantifier.around quantifier.choices = omega (arith, is_more, is_total, small) in
      let low : nat_lt most_bindings (tally.bindings + added quantifier.around quantifier.choices) ≡ false =
      le-ltb most_bindings (tally.bindings + added quantifier.around quantifier.choices) (omega (arith, is_more, is_total, small)) in
      (λ j. Ok (record { bindings = sum j; variables = is j }))
      ∙ sym (ap (λ b. cond b (Err (in_64_bits (tally.variables + first_past tally.bindings quantifier.around quantifier.choices)))
      (Ok (record { bindings = tally.bindings + added quantifier.around quantifier.choices; variables = in_64_bits (tally.variables + length quantifier.choices) }))) low)

-- each variable has a choice
pub same_count : (task : TaskParts) (groups : List VariableGroup) (before : ℕ) → in_64_bits (before + length (variable_types groups)) ≡ in_64_bits (before + length (choices_for task groups))
same_count task groups before = ap (λ n. in_64_bits (before + n)) (sym (length-map (variable_types groups) (object_count task)))

-- the first list passes the limit, or the second after it
pub past_first : (xs ys : List Quantifier) (variable : ℕ) → Err variable ≡ with_quantifiers nothing_counted xs → Some variable ≡ variable_past (xs ++ ys)
unfolding past variable_past
past_first xs ys variable is = sym (ap past (stops nothing_counted variable xs ys is))

pub past_second : (xs ys : List Quantifier) (next : Tally) (result : Result Tally ℕ) → Ok next ≡ with_quantifiers nothing_counted xs → result ≡ with_quantifiers next ys
    → past result ≡ variable_past (xs ++ ys)
unfolding variable_past
past_second xs ys next result first second = ap past second ∙ sym (ap past (goes_on nothing_counted next xs ys first))
