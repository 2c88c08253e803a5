use Rattle.std.proofs.Common.{◌≡◌, ◌^◌, ◌<◌, true, take}
use Rattle.std.specs.List.{list_all}
use Rattle.std.specs.Char.{is_ascii_digit}
use Rattle.pddl_words.specs.Decimals.{digits_value}
use Rattle.pddl_words.proofs.decimals.digits.Given as goal

-- what was read are digits, and their value
abbrev pub invariant-loop-b : goal.invariant-loop-b
invariant-loop-b l = record {
  digits : list_all is_ascii_digit (take l.b-index l.bytes) ≡ true;
  value : l.value ≡ digits_value (take l.b-index l.bytes);
  small : l.value < 10 ^ l.b-index;
}
