-- Parts, line by line.

use Rattle.std.proofs.Common.{◌≡◌, ℕ, ◌+◌, ◌-◌, ◌<◌, ◌≤◌, Bool, true, false, List, [], ◌∷◌, ◌++◌, length, take, drop, map, refl, ap, ◌∙◌, sym, subst, arith, append_assoc, length-drop, Some}
use Rattle.std.specs.Prelude.{cond, count_by}
use Rattle.std.specs.List.{concat, onto_first, slice_split}
use Rattle.std.proofs.Math.Seq.{take-add}
use Rattle.std.proofs.lemmas.List.{append-nil, drop-drop, take_all, drop_all, length-map}
use Rattle.std.proofs.lemmas.List.Splits.{length-slice_split}
use Rattle.plan_text.specs.Separators.{CutsLine, IsFirstSeparator, IsOnePartTo, onto_part}
use Rattle.plan_text.specs.Bundle.{lines, is_separator, parts}
use Rattle.plan_text.proofs.Lines.{no_lines}

onto_part-twice : (a b : List ℕ) (ps : List (List ℕ)) → onto_part a (onto_part b ps) ≡ onto_part (a ++ b) ps
onto_part-twice a b [] = refl
onto_part-twice a b (p ∷ ps) = ap (λ (q : List ℕ). q ∷ ps) (sym (append_assoc a b p))

onto_part-none : (ps : List (List ℕ)) → 0 < length ps → onto_part [] ps ≡ ps
onto_part-none [] some = absurd (omega arith)
onto_part-none (p ∷ ps) some = refl

joined_onto : (line : List ℕ) (runs : List (List (List ℕ))) → map concat (onto_first line runs) ≡ onto_part line (map concat runs)
joined_onto line [] = ap (λ (q : List ℕ). q ∷ []) (append-nil line)
joined_onto line (run ∷ runs) = refl

-- there is one part more than there are separators
pub length-parts : (text : List ℕ) → length (parts text) ≡ count_by is_separator (lines text) + 1
unfolding parts
length-parts text = length-map (slice_split is_separator (lines text)) concat ∙ length-slice_split is_separator (lines text)

-- a text with no byte is one part
no_text : parts [] ≡ [] ∷ []
unfolding parts
no_text = ap (λ (ls : List (List ℕ)). map concat (slice_split is_separator ls)) no_lines

parts_by : (t : Bool) (line : List ℕ) (ls : List (List ℕ)) → is_separator line ≡ t → map concat (slice_split is_separator (line ∷ ls)) ≡ cond t ([] ∷ map concat (slice_split is_separator ls)) (onto_part line (map concat (slice_split is_separator ls)))
parts_by true line ls is = ap (λ (t : Bool). map concat (cond t ([] ∷ slice_split is_separator ls) (onto_first line (slice_split is_separator ls)))) is
parts_by false line ls is =
    ap (λ (t : Bool). map concat (cond t ([] ∷ slice_split is_separator ls) (onto_first line (slice_split is_separator ls)))) is
    ∙ joined_onto line (slice_split is_separator ls)

-- behind a first line that is a separator, or is none
parts_line : (t : Bool) (text : List ℕ) (size : ℕ) → lines text ≡ take size text ∷ lines (drop size text) → is_separator (take size text) ≡ t → parts text ≡ cond t ([] ∷ parts (drop size text)) (onto_part (take size text) (parts (drop size text)))
unfolding parts
parts_line t text size first is = ap (λ (ls : List (List ℕ)). map concat (slice_split is_separator ls)) first ∙ parts_by t (take size text) (lines (drop size text)) is

pub one_part_start : (text : List ℕ) → IsOnePartTo text 0
one_part_start text = sym (onto_part-none (parts text) (omega (arith, length-parts text)))

-- behind more of the same part
one_part_on : (text : List ℕ) (offset size : ℕ) → IsOnePartTo text offset → IsOnePartTo (drop offset text) size → IsOnePartTo text (offset + size)
one_part_on text offset size before more =
    before ∙ ap (onto_part (take offset text)) more ∙ onto_part-twice (take offset text) (take size (drop offset text)) (parts (drop size (drop offset text)))
    ∙ ap (λ (front : List ℕ). onto_part front (parts (drop size (drop offset text)))) (sym (take-add offset size text))
    ∙ ap (λ (rest : List ℕ). onto_part (take (offset + size) text) (parts rest)) (drop-drop size offset text)

pub one_part_more : (text : List ℕ) (offset size : ℕ) → IsOnePartTo text offset → lines (drop offset text) ≡ take size (drop offset text) ∷ lines (drop size (drop offset text)) → is_separator (take size (drop offset text)) ≡ false → IsOnePartTo text (offset + size)
one_part_more text offset size before first is = one_part_on text offset size before (parts_line false (drop offset text) size first is)

parted : (text : List ℕ) (offset size : ℕ) → IsOnePartTo text offset → lines (drop offset text) ≡ take size (drop offset text) ∷ lines (drop size (drop offset text)) → is_separator (take size (drop offset text)) ≡ true → parts text ≡ take offset text ∷ parts (drop (offset + size) text)
parted text offset size before first is =
    before ∙ ap (onto_part (take offset text)) (parts_line true (drop offset text) size first is)
    ∙ ap (λ (part : List ℕ). part ∷ parts (drop size (drop offset text))) (append-nil (take offset text))
    ∙ ap (λ (rest : List ℕ). take offset text ∷ parts rest) (drop-drop size offset text)

pub one_part : (text : List ℕ) (offset : ℕ) → length text ≤ offset → IsOnePartTo text offset → parts text ≡ text ∷ []
one_part text offset all before =
    before ∙ ap (λ (rest : List ℕ). onto_part (take offset text) (parts rest)) (drop_all offset text all)
    ∙ ap (onto_part (take offset text)) no_text
    ∙ ap (λ (part : List ℕ). part ∷ []) (append-nil (take offset text) ∙ take_all offset text all)

-- a separator behind lines that are none
pub at_separator : (text rest : List ℕ) (offset size : ℕ) → rest ≡ drop offset text → offset < length text → IsOnePartTo text offset → CutsLine rest size → is_separator (take size rest) ≡ true → IsFirstSeparator (Some (record { start = offset; end = offset + size })) text
at_separator text rest offset size same within before cut is =
    let here : CutsLine (drop offset text) size = subst (λ (r : List ℕ). CutsLine r size) same cut in
    let some : 0 < length (drop offset text) = omega (arith, length-drop offset text) in (
      omega arith,
      omega (arith, here.within, length-drop offset text),
      parted text offset size before (here.first some) (subst (λ (r : List ℕ). is_separator (take size r) ≡ true) same is),
    )

-- one more line that is no separator
pub behind_line : (text rest : List ℕ) (offset size : ℕ) → rest ≡ drop offset text → offset < length text → IsOnePartTo text offset → CutsLine rest size → is_separator (take size rest) ≡ false → (offset + size ≤ length text) × IsOnePartTo text (offset + size)
behind_line text rest offset size same within before cut is =
    let here : CutsLine (drop offset text) size = subst (λ (r : List ℕ). CutsLine r size) same cut in
    let some : 0 < length (drop offset text) = omega (arith, length-drop offset text) in (
      omega (arith, here.within, length-drop offset text),
      one_part_more text offset size before (here.first some) (subst (λ (r : List ℕ). is_separator (take size r) ≡ false) same is),
    )

-- more lines that are no separators
pub behind_lines : (text rest : List ℕ) (offset size : ℕ) → rest ≡ drop offset text → offset ≤ length text → IsOnePartTo text offset → size ≤ length rest → IsOnePartTo rest size → (offset + size ≤ length text) × IsOnePartTo text (offset + size)
behind_lines text rest offset size same within before room more =
    let long : length rest ≡ length text - offset = ap length same ∙ length-drop offset text in
    (omega arith, one_part_on text offset size before (subst (λ (r : List ℕ). IsOnePartTo r size) same more))
