-- Known steps, and where they are kept.

use Rattle.std.specs.Prelude.{◌≡◌, ℕ, ◌+◌, ◌≤◌, List, length, slice_range}
use Rattle.step_codes.specs.declared.programs.Instruction.{Instruction}
use Rattle.step_codes.specs.Codes.{Code}
use Rattle.text_judge.specs.declared.memo.Entry.{Entry}

-- what is known of a step: the bytes that spell it, its code, and what it adds to the cost
pub record Known : Type 0 where
  pub key : List ℕ
  pub code : Code
  pub amount : ℕ

-- the known step of an entry, among the bytes of all keys, and the numbers and the instructions of all codes
abbrev pub known_at : List ℕ → List ℕ → List Instruction → Entry → Known
known_at bytes numbers instructions entry =
    record {
      key = slice_range bytes entry.key_start entry.key_end;
      code = record {
        needed = slice_range numbers entry.start entry.needed_end;
        forbidden = slice_range numbers entry.needed_end entry.forbidden_end;
        deleted = slice_range numbers entry.forbidden_end entry.deleted_end;
        added = slice_range numbers entry.deleted_end entry.end;
        program = slice_range instructions entry.program_start entry.program_end;
      };
      amount = entry.amount;
    }

-- the ranges of an entry are in order, and within this number of bytes, of numbers and of instructions
pub record IsEntry (bytes numbers instructions : ℕ) (entry : Entry) : Type 0 where
  pub key : entry.key_start ≤ entry.key_end
  pub bytes_within : entry.key_end ≤ bytes
  pub needed : entry.start ≤ entry.needed_end
  pub forbidden : entry.needed_end ≤ entry.forbidden_end
  pub deleted : entry.forbidden_end ≤ entry.deleted_end
  pub added : entry.deleted_end ≤ entry.end
  pub numbers_within : entry.end ≤ numbers
  pub program : entry.program_start ≤ entry.program_end
  pub instructions_within : entry.program_end ≤ instructions

-- the entry of a step with this key, this code and this amount, which follows the first `bytes` bytes, `numbers` numbers and `instructions` instructions
pub record IsEntryFor (entry : Entry) (bytes numbers instructions : ℕ) (key : List ℕ) (code : Code) (amount : ℕ) : Type 0 where
  pub key_start : entry.key_start ≡ bytes
  pub key_end : entry.key_end ≡ bytes + length key
  pub start : entry.start ≡ numbers
  pub needed : entry.needed_end ≡ numbers + length code.needed
  pub forbidden : entry.forbidden_end ≡ numbers + length code.needed + length code.forbidden
  pub deleted : entry.deleted_end ≡ numbers + length code.needed + length code.forbidden + length code.deleted
  pub added : entry.end ≡ numbers + length code.needed + length code.forbidden + length code.deleted + length code.added
  pub program_start : entry.program_start ≡ instructions
  pub program_end : entry.program_end ≡ instructions + length code.program
  pub adds_amount : entry.amount ≡ amount
