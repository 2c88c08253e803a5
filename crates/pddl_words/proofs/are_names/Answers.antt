use Rattle.std.proofs.Common.{◌+◌, drop, sym, ap, ◌∙◌}
use Rattle.pddl_words.proofs.NameRows.{names_from, from_start, at_end, no_letter, letter, space, name_byte, other_byte}
use Rattle.pddl_words.proofs.are_names.Goals as goal
use Rattle.pddl_words.proofs.are_names.Goals.{then-begins+else-not-is_ascii_alphabetic, else-begins+then-b-eq32, else-begins+else-b-eq32+else-not-is_name_byte}

pub returns-then-not-is_ascii_alphabetic : goal.returns-then-not-is_ascii_alphabetic
returns-then-not-is_ascii_alphabetic c =
    sym (no_letter c.args.row.now c.loop-b.b-index c.loop-b-test.true (sym c.is_ascii_alphabetic.ensures.value ∙ c.if-not-is_ascii_alphabetic.true))
    ∙ ap (λ begins. names_from begins (drop c.loop-b.b-index c.args.row.now)) (sym c.if-begins.true)
    ∙ c.loop-b.invariant ∙ from_start c.args.row.now

pub returns-then-not-is_name_byte : goal.returns-then-not-is_name_byte
returns-then-not-is_name_byte c =
    sym (other_byte c.args.row.now c.loop-b.b-index c.loop-b-test.true c.if-b-eq32.false (sym c.is_name_byte.ensures ∙ c.if-not-is_name_byte.true))
    ∙ ap (λ begins. names_from begins (drop c.loop-b.b-index c.args.row.now)) (sym c.if-begins.false)
    ∙ c.loop-b.invariant ∙ from_start c.args.row.now

pub loop-b-preserved : goal.loop-b-preserved
loop-b-preserved c =
    elim c.if-begins.branch [
      | then-begins+else-not-is_ascii_alphabetic w ↦
          ap (λ begins. names_from begins (drop (c.loop-b.b-index + 1) c.args.row.now)) w.begins-is
          ∙ sym (letter c.args.row.now c.loop-b.b-index c.loop-b-test.true (sym w.is_ascii_alphabetic.ensures.value ∙ w.if-not-is_ascii_alphabetic.false))
          ∙ ap (λ begins. names_from begins (drop c.loop-b.b-index c.args.row.now)) (sym w.if-begins.true)
          ∙ c.loop-b.invariant
      | else-begins+then-b-eq32 w ↦
          ap (λ begins. names_from begins (drop (c.loop-b.b-index + 1) c.args.row.now)) w.begins-is
          ∙ sym (space c.args.row.now c.loop-b.b-index c.loop-b-test.true w.if-b-eq32.true)
          ∙ ap (λ begins. names_from begins (drop c.loop-b.b-index c.args.row.now)) (sym w.if-begins.false)
          ∙ c.loop-b.invariant
      | else-begins+else-b-eq32+else-not-is_name_byte w ↦
          ap (λ begins. names_from begins (drop (c.loop-b.b-index + 1) c.args.row.now)) (w.begins-is ∙ w.if-begins.false)
          ∙ sym (name_byte c.args.row.now c.loop-b.b-index c.loop-b-test.true w.if-b-eq32.false (sym w.is_name_byte.ensures ∙ w.if-not-is_name_byte.false))
          ∙ ap (λ begins. names_from begins (drop c.loop-b.b-index c.args.row.now)) (sym w.if-begins.false)
          ∙ c.loop-b.invariant
    ]

pub returns : goal.returns
returns c = sym (at_end c.loop-b.begins c.args.row.now c.loop-b.b-index c.loop-b-test.false) ∙ c.loop-b.invariant ∙ from_start c.args.row.now
