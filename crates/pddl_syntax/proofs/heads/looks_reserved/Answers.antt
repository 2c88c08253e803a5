use Rattle.std.proofs.Common.{◌≡◌, ◌<◌, true, length, get_or, eqb, sym, ap, ◌∙◌, arith}
use Rattle.pddl_words.specs.Words.{is_name}
use Rattle.pddl_syntax.proofs.ReservedWords.{reserved_length, first_is, name_begins, plain_name}
use Rattle.pddl_syntax.proofs.heads.looks_reserved.Goals as goal
use Rattle.pddl_syntax.proofs.heads.looks_reserved.Goals.{in-97, in-101, in-102, in-105, in-110, in-111, in-119, in_default-2}

pub returns : goal.returns
returns c other name =
    let due : c.match-first-or32.reserved_len ≡ reserved_length c.in-Some.first.now =
    elim c.match-first-or32.branch [
      | in-97 w ↦ grind arith
      | in-101 w ↦ grind arith
      | in-102 w ↦ grind arith
      | in-105 w ↦ grind arith
      | in-110 w ↦ grind arith
      | in-111 w ↦ grind arith
      | in-119 w ↦ grind arith
      | in_default-2 w ↦ grind arith
    ] in
    let first : c.in-Some.first.now ≡ get_or c.args.word.now 0 0 = first_is c.args.word.now c.in-Some.first.now c.in-Some.ensures.value in
    let fits : get_or c.args.word.now 0 0 < 256 = (c.type_inv.word 0).fits in
    plain_name c.args.word.now fits (ap (eqb (length c.args.word.now)) (sym (due ∙ ap reserved_length first)) ∙ other) name

pub returns-in_default : goal.returns-in_default
returns-in_default c other name =
    let none : is_name c.args.word.now ≡ true = name in
    absurd (let empty = name_begins c.args.word.now c.in_default.ensures.value in cc)
