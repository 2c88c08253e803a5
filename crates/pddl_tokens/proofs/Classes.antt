-- What the class of a byte says of it.

use Rattle.std.proofs.Common.{◌≡◌, ◌≢◌, ℕ, ◌≤◌, true, false, not, refl, arith}
use Rattle.pddl_tokens.specs.declared.bytes.ByteClass.TheVariants as c
use Rattle.pddl_tokens.specs.Bytes.{class_of, is_word_class}
use Rattle.pddl_tokens.specs.Cut.{is_line_end_class, is_blank}

pub line_end_is : (b : ℕ) → class_of b ≡ c.LineEnd → b ≡ 10
unfolding class_of
line_end_is b is = grind arith

pub blank_is : (b : ℕ) → class_of b ≡ c.Blank → is_blank b ≡ true
unfolding class_of
blank_is b is = grind arith

pub blank_no_semicolon : (b : ℕ) → class_of b ≡ c.Blank → b ≢ 59
unfolding class_of
blank_no_semicolon b is = grind arith

pub left_is : (b : ℕ) → class_of b ≡ c.Left → b ≡ 40
unfolding class_of
left_is b is = grind arith

pub right_is : (b : ℕ) → class_of b ≡ c.Right → b ≡ 41
unfolding class_of
right_is b is = grind arith

pub semicolon_is : (b : ℕ) → class_of b ≡ c.Semicolon → b ≡ 59
unfolding class_of
semicolon_is b is = grind arith

pub bad_no_blank : (b : ℕ) → class_of b ≡ c.Bad → is_blank b ≡ false
unfolding class_of
bad_no_blank b is = grind arith

pub bad_not_visible : (b : ℕ) → class_of b ≡ c.Bad → 33 ≤ b → b ≤ 126 → ⊥
unfolding class_of
bad_not_visible b is low high = grind arith

pub word_byte_no_semicolon : (b : ℕ) → is_word_class (class_of b) ≡ true → b ≢ 59
unfolding class_of
word_byte_no_semicolon b is = grind arith

pub no_comment_line_end : (b : ℕ) → not (is_line_end_class (class_of b)) ≡ false → b ≡ 10
unfolding class_of
no_comment_line_end b is = grind arith

pub comment_byte_no_line_end : (b : ℕ) → not (is_line_end_class (class_of b)) ≡ true → b ≢ 10
unfolding class_of
comment_byte_no_line_end b is = grind arith

pub line_end_class : (b : ℕ) → b ≡ 10 → class_of b ≡ c.LineEnd
unfolding class_of
line_end_class b is = grind arith

pub line_end_no_word : is_word_class (class_of 10) ≡ false
unfolding class_of
line_end_no_word = refl

pub word_no_blank : (b : ℕ) → is_word_class (class_of b) ≡ true → is_blank b ≡ false
unfolding class_of
word_no_blank b is = grind arith

pub word_no_parenthesis : (b : ℕ) → is_word_class (class_of b) ≡ true → (b ≢ 40) × (b ≢ 41)
unfolding class_of
word_no_parenthesis b is = (grind arith, grind arith)

pub word_visible : (b : ℕ) → is_word_class (class_of b) ≡ true → (33 ≤ b) × (b ≤ 126)
unfolding class_of
word_visible b is = (grind arith, grind arith)
