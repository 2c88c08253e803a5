use Rattle.std.proofs.Common.{◌+◌, sym, ◌∙◌, arith}
use Rattle.std.specs.Cmp.{unsigned_Decides}
use Rattle.pddl_tokens.proofs.Lemmas.{rest_whole}
use Rattle.pddl_tokens.proofs.PlainRows.{begins_at, range_at}
use Rattle.pddl_tokens.proofs.scan.Cursor.paren_range.Goals as goal

pub invariant_of-result-2 : goal.invariant_of-result-2
invariant_of-result-2 c =
    let text = c.self.inside.text.now in
    let state = c.skip_blanks-open.result in
    let found = c.in_ok-size.ensures in
    record {
      listed =
          begins_at text _ _ state c.in_ok-size.size (omega arith) c.if-text-open-ne40.false (rest_whole text state) (rest_whole text (state + 1)) found.0.high
          ((unsigned_Decides _ _).0 found.1);
    }

pub returns : goal.returns
returns c =
    let text = c.self.inside.text.now in
    let state = c.skip_blanks-open.result in
    let found = c.in_ok-size.ensures in
    λ plain.
    sym c.self.view_is ∙ sym c.skip_blanks-open.ensures.same
    ∙ range_at text _ state c.in_ok-size.size (omega arith) c.if-text-open-ne40.false (rest_whole text (state + 1)) found.0.high ((unsigned_Decides _ _).0 found.1) plain
