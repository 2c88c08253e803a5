-- The least job that waits, by the bits and by the stages.

use Rattle.std.proofs.Common.{◌≡◌, ℕ, ◌<◌, ◌≤◌, ⊎_elim, true, false, List, length, get_or, Option, Some, None, ap, sym, ◌∙◌, refl, arith, true≢false}
use Rattle.std.specs.Prelude.{MatchOption}
use Rattle.std.specs.List.{position_from, position_or_len}
use Rattle.std.proofs.lemmas.Bool.{cases_lt}
use Rattle.std.proofs.lemmas.Bool.Decides.{nat_tests}
use Rattle.std.proofs.lemmas.List.Sums.{position_or_len_is}
use Rattle.std.proofs.lemmas.Iterator.Adapters.{position_from-zero}
use Rattle.std.proofs.lemmas.Option.{slice_get-get_or, slice_get_past}
use Rattle.bit_rows.specs.Rows.{row_has}
use Rattle.intake_rules.specs.declared.stage.Stage.{Stage}
use Rattle.intake_rules.specs.declared.stage.Stage.TheVariants.{Waiting}
use Rattle.intake_rules.specs.Intake.{is_waiting_stage}
use Rattle.intake_core.specs.Rows.{waits, waits_at, IsLeastBit}

-- a job that waits has an index
waits-lt : (stages : List Stage) (k : ℕ) → waits_at stages k ≡ true → k < length stages
waits-lt stages k e =
    ⊎_elim
    (λ (within : k < length stages). within)
    (λ (past : length stages ≤ k). absurd (true≢false (sym e ∙ ap waits (slice_get_past stages k past))))
    (cases_lt k (length stages))

module _ (row : List ℕ) (stages : List Stage) (is : (k : ℕ) → row_has row k ≡ waits_at stages k) where
  -- the bit of a job
  bit-of : (k : ℕ) → k < length stages → is_waiting_stage (get_or stages k Waiting) ≡ row_has row k
  bit-of k within = sym (is k ∙ ap waits (slice_get-get_or stages k Waiting within))

  -- the least bit that is set is that of a job
  pub least-lt : (found : Option ℕ) (bit : ℕ) → MatchOption found ((k : ℕ) → row_has row k ≡ false) (IsLeastBit row) → found ≡ Some bit → bit < length stages
  least-lt None bit none e = absurd (cc)
  least-lt (Some other) bit least e = let same : other ≡ bit = cc in waits-lt stages bit (sym (is bit) ∙ ap (row_has row) (sym same) ∙ least.at)

  -- and of the first job that waits
  pub least-same : (found : Option ℕ) → MatchOption found ((k : ℕ) → row_has row k ≡ false) (IsLeastBit row) → found ≡ position_from is_waiting_stage 0 stages
  least-same None none =
      let first : position_or_len is_waiting_stage stages ≡ length stages =
      position_or_len_is is_waiting_stage stages (length stages) Waiting (omega arith) (λ k lt. bit-of k lt ∙ none k) (λ lt. absurd (omega (arith, lt))) in
      grind (arith, nat_tests, first) ∙ position_from-zero is_waiting_stage stages
  least-same (Some bit) least =
      let within : bit < length stages = least-lt (Some bit) bit least refl in
      let first : position_or_len is_waiting_stage stages ≡ bit =
      position_or_len_is is_waiting_stage stages bit Waiting (omega (arith, within)) (λ k lt. bit-of k (omega (arith, lt, within)) ∙ least.before k lt) (λ lt. bit-of bit within ∙ least.at) in
      grind (arith, nat_tests, first, within) ∙ position_from-zero is_waiting_stage stages
