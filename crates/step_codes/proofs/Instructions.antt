-- Programs, one instruction after the other, and what they find when they are put together.

use Rattle.std.proofs.Common.{◌≡◌, ℕ, ◌+◌, ◌<◌, zero, suc, Bool, true, false, not, cond, List, [], ◌∷◌, refl, sym, ap, ◌∙◌, drop, length, get_or}
use Rattle.std.proofs.lemmas.List.{drop-drop, get_or_default}
use Rattle.std.specs.Bool.{beq}
use Rattle.step_codes.specs.declared.programs.Instruction.{Instruction}
use Rattle.step_codes.specs.declared.programs.Instruction.TheVariants.{Test}
use Rattle.step_codes.specs.Programs.{numbers_changed}
use Rattle.strips_judge.proofs.Searches.{left}

module _ (bits : ℕ → Bool) (truth : Bool) where
  abbrev found : ℕ → List Instruction → List ℕ
  found = numbers_changed bits truth

  -- to skip instructions is to go on behind them
  pub skipped : (skip : ℕ) (program : List Instruction) → found skip program ≡ found 0 (drop skip program)
  skipped zero program = refl
  skipped (suc skip) [] = refl
  skipped (suc skip) (instruction ∷ program) = skipped skip program

  -- a test that fails skips the instructions that follow it
  pub failed : (program : List Instruction) (at : ℕ) (wanted result : Bool) (number skip : ℕ) (default : Instruction) → at < length program
      → get_or program at default ≡ Test wanted number skip → result ≡ bits number → not (beq result wanted) ≡ true → found 0 (drop at program) ≡ found 0 (drop (at + 1 + skip) program)
  failed program at wanted result number skip default lt test same fails =
      let here = get_or program at default in
      ap (found 0) (left program at here lt (get_or_default program at default here lt))
      ∙ ap (λ i. found 0 (i ∷ drop (at + 1) program)) test
      ∙ ap (λ b. found (cond b 0 skip) (drop (at + 1) program)) (ap (λ b. beq b wanted) (sym same) ∙ otherwise (beq result wanted) fails)
      ∙ skipped skip (drop (at + 1) program)
      ∙ ap (found 0) (drop-drop skip (at + 1) program)
    where
      otherwise : (b : Bool) → not b ≡ true → b ≡ false
      otherwise true e = sym e
      otherwise false e = refl
