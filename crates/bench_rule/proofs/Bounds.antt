-- A list that names each number at most once, and only numbers below a bound, is no longer than the bound.

use Rattle.std.proofs.Common.{◌≡◌, ◌<◌, ◌≤◌, ℕ, zero, suc, ◌+◌, eqb, List, [], ◌∷◌, length, map, refl, ap, arith}
use Rattle.std.proofs.lemmas.List.{length-map}
use mathlib.Core.Logic.{dite}
use native.Mathlib.Decide.{ℕ_discrete}
use Rattle.bench_rule.specs.declared.views.Held.{Held}
use Rattle.bench_rule.specs.Views.{one_if, times, times_held}
use Rattle.bench_rule.proofs.Counts.{one_at, one_else}

-- how many elements are below n
abbrev count_below : ℕ → List ℕ → ℕ
count_below zero xs = 0
count_below (suc n) xs = times n xs + count_below n xs

count_small : (n : ℕ) (xs : List ℕ) → ((q : ℕ) → times q xs ≤ 1) → count_below n xs ≤ n
count_small zero xs once = omega arith
count_small (suc n) xs once = omega (arith, once n, count_small n xs once)

count_none : (n : ℕ) → count_below n [] ≡ 0
count_none zero = refl
count_none (suc n) = omega (arith, count_none n)

count_past : (n x : ℕ) (xs : List ℕ) → n ≤ x → count_below n (x ∷ xs) ≡ count_below n xs
count_past zero x xs h = refl
count_past (suc n) x xs h = let none = one_else x n (λ e. omega arith) in let rest = count_past n x xs (omega arith) in omega arith

count_more : (n x : ℕ) (xs : List ℕ) → x < n → count_below n (x ∷ xs) ≡ suc (count_below n xs)
count_more zero x xs h = absurd (omega arith)
count_more (suc n) x xs h = dite (ℕ_discrete x n)
    (λ same. let one = one_at x n same in let rest = count_past n x xs (omega arith) in omega arith)
    (λ apart. let none = one_else x n apart in let rest = count_more n x xs (omega arith) in omega arith)

count_all : (n : ℕ) (xs : List ℕ) → ((q : ℕ) → 0 < times q xs → q < n) → count_below n xs ≡ length xs
count_all n [] inside = count_none n
count_all n (x ∷ xs) inside = let here = count_more n x xs (inside x (let one = one_at x x refl in omega arith)) in let rest = count_all n xs (λ q h. inside q (omega arith)) in omega arith

pub few : (n : ℕ) (xs : List ℕ) → ((q : ℕ) → times q xs ≤ 1) → ((q : ℕ) → 0 < times q xs → q < n) → length xs ≤ n
few n xs once inside = let small = count_small n xs once in let all = count_all n xs inside in omega arith

times_slots : (slot : ℕ) (all : List Held) → times slot (map (λ (held : Held). held.slot) all) ≡ times_held slot all
times_slots slot [] = refl
times_slots slot (held ∷ others) = ap (λ n. one_if (eqb held.slot slot) + n) (times_slots slot others)

pub few_held : (n : ℕ) (all : List Held) → ((q : ℕ) → times_held q all ≤ 1) → ((q : ℕ) → 0 < times_held q all → q < n) → length all ≤ n
few_held n all once inside = let slots : List ℕ = map (λ (held : Held). held.slot) all in
    let short = few n slots (λ q. let same = times_slots q all in let one = once q in omega arith) (λ q h. inside q (let same = times_slots q all in omega arith)) in
    let long = length-map all (λ (held : Held). held.slot) in omega arith
