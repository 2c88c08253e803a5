-- A comment goes on up to the first LF.

use Rattle.std.proofs.Common.{◌≡◌, ℕ, ◌<◌, true, false, List, length, get_or, arith}
use Rattle.std.specs.List.{prefix_len}
use Rattle.std.proofs.lemmas.Bool.{false_from_ne_true}
use Rattle.std.proofs.lemmas.List.Sums.{prefix_len_is}
use Rattle.memchr.specs.Find.{NoneBefore, Nowhere, Passes, is_byte}
use Rattle.pddl_tokens.specs.Bytes.{class_of}
use Rattle.pddl_tokens.specs.Cut.{is_comment_byte}

goes_on_by : (b : ℕ) → is_byte 10 b ≡ false → is_comment_byte b ≡ true
unfolding class_of
goes_on_by b is = grind arith

ends_by : (b : ℕ) → is_byte 10 b ≡ true → is_comment_byte b ≡ false
unfolding class_of
ends_by b is = grind arith

goes_on : (bytes : List ℕ) (end : ℕ) → Nowhere (Passes (is_byte 10) bytes) 0 end → (k : ℕ) → k < end → is_comment_byte (get_or bytes k 0) ≡ true
goes_on bytes end none k lt = goes_on_by _ (false_from_ne_true _ (none k (omega arith) lt))

pub run_to : (bytes : List ℕ) (end : ℕ) → NoneBefore (Passes (is_byte 10) bytes) 0 (length bytes) end × Passes (is_byte 10) bytes end → prefix_len is_comment_byte bytes ≡ end
run_to bytes end found = prefix_len_is is_comment_byte bytes end 0 (omega (arith, found.0.high)) (goes_on bytes end found.0.before) (λ lt. ends_by _ found.1)

pub run_through : (bytes : List ℕ) → Nowhere (Passes (is_byte 10) bytes) 0 (length bytes) → prefix_len is_comment_byte bytes ≡ length bytes
run_through bytes none = prefix_len_is is_comment_byte bytes (length bytes) 0 (omega arith) (goes_on bytes (length bytes) none) (λ lt. absurd (omega arith))
