-- A word is read as a number before a mark exactly where it is one.

use Rattle.std.proofs.Common.{◌≡◌, ℕ, Bool, true, false, List, [], ◌∷◌, ◌++◌, Some, None, refl, ap, ◌∙◌, sym}
use Rattle.std.specs.Prelude.{◌==◌, cond, reverse}
use Rattle.std.proofs.lemmas.List.{reverse-append, reverse-reverse}
use Rattle.std.proofs.lemmas.Bool.{eqb-true}
use Rattle.pddl_words.specs.Decimals.{Decimal, IsDecimal, decimal_bytes, billionths}
use Rattle.pddl_words.specs.DecimalReading.{billionths_of}
use Rattle.pddl_words.proofs.DecimalLaws.{read_bytes, bytes_found}
use Rattle.plan_text.specs.MarkedNumbers.{number_from_end, number_before}
use Rattle.plan_text.proofs.MarkedNumbers.{ends_with_mark}

pub number_read : (mark : ℕ) (number : Decimal) → IsDecimal number → number_before mark (decimal_bytes number ++ mark ∷ []) ≡ Some (billionths number)
number_read mark number is =
    sym (ends_with_mark mark (decimal_bytes number ++ mark ∷ []) (decimal_bytes number) mark refl refl) ∙ read_bytes number.whole number.fraction is

-- what is read as a number is one

pub record IsNumberWord (mark : ℕ) (word : List ℕ) (value : ℕ) : Type 0 where
  pub number : Decimal
  pub is : IsDecimal number
  pub spelled : word ≡ decimal_bytes number ++ mark ∷ []
  pub valued : value ≡ billionths number

word_found_by : (mark last value : ℕ) (word bytes : List ℕ) (t : Bool) → (last == mark) ≡ t → word ≡ bytes ++ last ∷ [] → cond t (billionths_of bytes) None ≡ Some value → IsNumberWord mark word value
word_found_by mark last value word bytes true is split read =
    let found = bytes_found bytes value read in
    record {
      number = found.number;
      is = found.is;
      spelled = split ∙ ap (λ (b : ℕ). bytes ++ b ∷ []) (eqb-true last mark is) ∙ ap (λ (bs : List ℕ). bs ++ mark ∷ []) found.spelled;
      valued = found.valued;
    }
word_found_by mark last value word bytes false is split read = absurd cc

word_found_from : (mark value : ℕ) (word back : List ℕ) → reverse word ≡ back → number_from_end mark back ≡ Some value → IsNumberWord mark word value
word_found_from mark value word [] is read = absurd cc
word_found_from mark value word (last ∷ bytes) is read =
    let split : word ≡ reverse bytes ++ last ∷ [] = sym (reverse-reverse word) ∙ ap reverse is ∙ reverse-append (last ∷ []) bytes in
    word_found_by mark last value word (reverse bytes) (last == mark) refl split read

pub number_found : (mark : ℕ) (word : List ℕ) (value : ℕ) → number_before mark word ≡ Some value → IsNumberWord mark word value
unfolding number_before
number_found mark word value read = word_found_from mark value word (reverse word) refl read
