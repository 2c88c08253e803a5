-- Known steps among bytes, numbers and instructions: those that come behind leave the others as they are.

use Rattle.std.proofs.Common.{◌≡◌, ℕ, ◌+◌, ◌-◌, ◌≤◌, List, [], ◌∷◌, ◌++◌, All, suc, length, map, take, drop, slice_range, slice_index_or, subst, ap, sym, ◌∙◌, refl, arith, append_assoc, append-nil, length-append, length-drop}
use Rattle.std.proofs.lemmas.List.{take-append-le, drop-append-le, take_all, map-append}
use Rattle.std.proofs.lemmas.List.Elements.{All-append, All-cons, All-nil}
use Rattle.std.proofs.Math.Seq.{drop-append_seam}
use Rattle.step_codes.specs.declared.programs.Instruction.{Instruction}
use Rattle.step_codes.specs.Codes.{Code}
use Rattle.text_judge.specs.declared.memo.Entry.{Entry}
use Rattle.text_judge.specs.Known.{known_at, IsEntry, IsEntryFor}

module _ {A : Type 0} where
  -- a range stays where items come behind
  range_kept : (xs ys : List A) (i j : ℕ) → i ≤ j → j ≤ length xs → slice_range (xs ++ ys) i j ≡ slice_range xs i j
  range_kept xs ys i j order within =
      let starts : i ≤ length xs = omega (arith, order, within) in
      let count : j - i ≤ length (drop i xs) = omega (arith, within, length-drop i xs) in
      ap (take (j - i)) (drop-append-le i xs ys starts) ∙ take-append-le (j - i) (drop i xs) ys count

  -- the range of the items in the middle
  range_middle : (before xs behind : List A) (i j : ℕ) → i ≡ length before → j ≡ length before + length xs → slice_range ((before ++ xs) ++ behind) i j ≡ xs
  range_middle before xs behind i j starts ends =
      let total : length (before ++ xs) ≡ length before + length xs = length-append before xs in
      range_kept (before ++ xs) behind i j (omega (arith, starts, ends)) (omega (arith, ends, total))
      ∙ ap (λ k. take (j - k) (drop k (before ++ xs))) starts
      ∙ ap (take (j - length before)) (drop-append_seam before xs)
      ∙ take_all (j - length before) xs (omega (arith, ends))

  -- the range of the items at the end
  range_last : (before xs : List A) (i j : ℕ) → i ≡ length before → j ≡ length before + length xs → slice_range (before ++ xs) i j ≡ xs
  range_last before xs i j starts ends = ap (λ l. slice_range l i j) (sym (append-nil (before ++ xs))) ∙ range_middle before xs [] i j starts ends

module _ (bytes numbers more_bytes more_numbers : List ℕ) (instructions more_instructions : List Instruction) where
  -- a known step stays
  one_kept : (entry : Entry) → IsEntry (length bytes) (length numbers) (length instructions) entry
      → known_at (bytes ++ more_bytes) (numbers ++ more_numbers) (instructions ++ more_instructions) entry ≡ known_at bytes numbers instructions entry
  one_kept entry h =
      let key = range_kept bytes more_bytes entry.key_start entry.key_end h.key h.bytes_within in
      let added = range_kept numbers more_numbers entry.deleted_end entry.end h.added h.numbers_within in
      let deleted = range_kept numbers more_numbers entry.forbidden_end entry.deleted_end h.deleted (omega (arith, h.added, h.numbers_within)) in
      let forbidden = range_kept numbers more_numbers entry.needed_end entry.forbidden_end h.forbidden (omega (arith, h.deleted, h.added, h.numbers_within)) in
      let needed = range_kept numbers more_numbers entry.start entry.needed_end h.needed (omega (arith, h.forbidden, h.deleted, h.added, h.numbers_within)) in
      let program = range_kept instructions more_instructions entry.program_start entry.program_end h.program h.instructions_within in
      λ j. record { key = key j; code = record { needed = needed j; forbidden = forbidden j; deleted = deleted j; added = added j; program = program j }; amount = entry.amount }

  -- and so do all
  all_kept : (entries : List Entry) → All (IsEntry (length bytes) (length numbers) (length instructions)) entries
      → map (known_at (bytes ++ more_bytes) (numbers ++ more_numbers) (instructions ++ more_instructions)) entries ≡ map (known_at bytes numbers instructions) entries
  all_kept [] h = refl
  all_kept (entry ∷ entries) h = λ j. one_kept entry (h 0 entry (omega arith)) j ∷ all_kept entries (λ k d lt. h (suc k) d (omega arith)) j

-- the step that comes behind
one_new : (bytes numbers key : List ℕ) (instructions : List Instruction) (code : Code) (amount : ℕ) (entry : Entry)
    → IsEntryFor entry (length bytes) (length numbers) (length instructions) key code amount
    → known_at (bytes ++ key) (numbers ++ (code.needed ++ (code.forbidden ++ (code.deleted ++ code.added)))) (instructions ++ code.program) entry ≡ record { key = key; code = code; amount = amount }
one_new bytes numbers key instructions code amount entry h =
    let n = numbers in
    let a = code.needed in
    let b = code.forbidden in
    let c = code.deleted in
    let d = code.added in
    let all = n ++ (a ++ (b ++ (c ++ d))) in
    let word : slice_range (bytes ++ key) entry.key_start entry.key_end ≡ key = range_last bytes key entry.key_start entry.key_end h.key_start h.key_end in
    let program = range_last instructions code.program entry.program_start entry.program_end h.program_start h.program_end in
    let first : all ≡ (n ++ a) ++ (b ++ (c ++ d)) = sym (append_assoc n a (b ++ (c ++ d))) in
    let second : all ≡ ((n ++ a) ++ b) ++ (c ++ d) = first ∙ sym (append_assoc (n ++ a) b (c ++ d)) in
    let third : all ≡ (((n ++ a) ++ b) ++ c) ++ d = second ∙ sym (append_assoc ((n ++ a) ++ b) c d) in
    let la : length (n ++ a) ≡ length n + length a = length-append n a in
    let lb : length ((n ++ a) ++ b) ≡ length (n ++ a) + length b = length-append (n ++ a) b in
    let lc : length (((n ++ a) ++ b) ++ c) ≡ length ((n ++ a) ++ b) + length c = length-append ((n ++ a) ++ b) c in
    let needed = ap (λ l. slice_range l entry.start entry.needed_end) first ∙ range_middle n a (b ++ (c ++ d)) entry.start entry.needed_end h.start h.needed in
    let forbidden = ap (λ l. slice_range l entry.needed_end entry.forbidden_end) second
    ∙ range_middle (n ++ a) b (c ++ d) entry.needed_end entry.forbidden_end (omega (arith, h.needed, la)) (omega (arith, h.forbidden, la)) in
    let deleted = ap (λ l. slice_range l entry.forbidden_end entry.deleted_end) third
    ∙ range_middle ((n ++ a) ++ b) c d entry.forbidden_end entry.deleted_end (omega (arith, h.forbidden, la, lb)) (omega (arith, h.deleted, la, lb)) in
    let added = ap (λ l. slice_range l entry.deleted_end entry.end) third
    ∙ range_last (((n ++ a) ++ b) ++ c) d entry.deleted_end entry.end (omega (arith, h.deleted, la, lb, lc)) (omega (arith, h.added, la, lb, lc)) in
    λ j. record { key = word j; code = record { needed = needed j; forbidden = forbidden j; deleted = deleted j; added = added j; program = program j }; amount = h.adds_amount j }

-- a step that is added comes behind the others
pub known_added : (bytes numbers key : List ℕ) (instructions : List Instruction) (code : Code) (amount : ℕ) (entries : List Entry) (entry : Entry)
    (new_bytes new_numbers : List ℕ) (new_instructions : List Instruction) (new_entries : List Entry)
    → All (IsEntry (length bytes) (length numbers) (length instructions)) entries → IsEntryFor entry (length bytes) (length numbers) (length instructions) key code amount
    → new_bytes ≡ bytes ++ key → new_numbers ≡ (((numbers ++ code.needed) ++ code.forbidden) ++ code.deleted) ++ code.added → new_instructions ≡ instructions ++ code.program
    → new_entries ≡ entries ++ entry ∷ []
    → map (known_at new_bytes new_numbers new_instructions) new_entries ≡ map (known_at bytes numbers instructions) entries ++ record { key = key; code = code; amount = amount } ∷ []
known_added bytes numbers key instructions code amount entries entry new_bytes new_numbers new_instructions new_entries h is of_bytes of_numbers of_instructions of_entries =
    let more = code.needed ++ (code.forbidden ++ (code.deleted ++ code.added)) in
    let all : new_numbers ≡ numbers ++ more =
    of_numbers
    ∙ append_assoc ((numbers ++ code.needed) ++ code.forbidden) code.deleted code.added
    ∙ append_assoc (numbers ++ code.needed) code.forbidden (code.deleted ++ code.added)
    ∙ append_assoc numbers code.needed (code.forbidden ++ (code.deleted ++ code.added)) in
    (λ j. map (known_at (of_bytes j) (all j) (of_instructions j)) (of_entries j))
    ∙ map-append (known_at (bytes ++ key) (numbers ++ more) (instructions ++ code.program)) entries (entry ∷ [])
    ∙ (λ j. all_kept bytes numbers key more instructions code.program entries h j ++ one_new bytes numbers key instructions code amount entry is j ∷ [])

-- an entry stays within where there is more
wider : (bytes numbers instructions more_bytes more_numbers more_instructions : ℕ) (entry : Entry) → bytes ≤ more_bytes → numbers ≤ more_numbers → instructions ≤ more_instructions
    → IsEntry bytes numbers instructions entry → IsEntry more_bytes more_numbers more_instructions entry
wider bytes numbers instructions more_bytes more_numbers more_instructions entry b n i h =
    record {
      key = h.key;
      bytes_within = omega (arith, h.bytes_within, b);
      needed = h.needed;
      forbidden = h.forbidden;
      deleted = h.deleted;
      added = h.added;
      numbers_within = omega (arith, h.numbers_within, n);
      program = h.program;
      instructions_within = omega (arith, h.instructions_within, i);
    }

-- where a step is added, all entries are within
pub within_added : (bytes numbers key : List ℕ) (instructions : List Instruction) (code : Code) (amount : ℕ) (entries : List Entry) (entry : Entry)
    (new_bytes new_numbers : List ℕ) (new_instructions : List Instruction) (new_entries : List Entry)
    → All (IsEntry (length bytes) (length numbers) (length instructions)) entries → IsEntryFor entry (length bytes) (length numbers) (length instructions) key code amount
    → new_bytes ≡ bytes ++ key → new_numbers ≡ (((numbers ++ code.needed) ++ code.forbidden) ++ code.deleted) ++ code.added → new_instructions ≡ instructions ++ code.program
    → new_entries ≡ entries ++ entry ∷ [] → All (IsEntry (length new_bytes) (length new_numbers) (length new_instructions)) new_entries
within_added bytes numbers key instructions code amount entries entry new_bytes new_numbers new_instructions new_entries h is of_bytes of_numbers of_instructions of_entries =
    let b : length new_bytes ≡ length bytes + length key = ap length of_bytes ∙ length-append bytes key in
    let n : length new_numbers ≡ length numbers + length code.needed + length code.forbidden + length code.deleted + length code.added =
    ap length of_numbers
    ∙ length-append (((numbers ++ code.needed) ++ code.forbidden) ++ code.deleted) code.added
    ∙ ap (λ k. k + length code.added) (length-append ((numbers ++ code.needed) ++ code.forbidden) code.deleted
    ∙ ap (λ k. k + length code.deleted) (length-append (numbers ++ code.needed) code.forbidden ∙ ap (λ k. k + length code.forbidden) (length-append numbers code.needed))) in
    let i : length new_instructions ≡ length instructions + length code.program = ap length of_instructions ∙ length-append instructions code.program in
    let Within : Entry → Type 0 = IsEntry (length new_bytes) (length new_numbers) (length new_instructions) in
    let last : IsEntry (length new_bytes) (length new_numbers) (length new_instructions) entry = record {
      key = omega (arith, is.key_start, is.key_end);
      bytes_within = omega (arith, is.key_end, b);
      needed = omega (arith, is.start, is.needed);
      forbidden = omega (arith, is.needed, is.forbidden);
      deleted = omega (arith, is.forbidden, is.deleted);
      added = omega (arith, is.deleted, is.added);
      numbers_within = omega (arith, is.added, n);
      program = omega (arith, is.program_start, is.program_end);
      instructions_within = omega (arith, is.program_end, i);
    } in
    subst (All Within) (sym of_entries)
    (All-append Within entries (entry ∷ [])
    (λ k d lt. wider (length bytes) (length numbers) (length instructions) (length new_bytes) (length new_numbers) (length new_instructions) (slice_index_or entries k d)
    (omega (arith, b)) (omega (arith, n)) (omega (arith, i)) (h k d lt))
    (All-cons Within entry [] last (All-nil Within)))
