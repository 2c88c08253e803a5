use Rattle.std.proofs.Common.{arith, add-one, length}
use Rattle.std.proofs.lemmas.List.{take_all, drop_all}
use Rattle.plan_text.proofs.Lines.{line_with_lf, line_without_lf, no_lines}
use Rattle.plan_text.proofs.parts.line_len.Goals as goal

pub returns-in-Some : goal.returns-in-Some
returns-in-Some c =
    let found = c.in-Some.ensures in
    record {
      within = omega (arith, found.0.high);
      some = λ _. omega arith;
      first = λ _. rw add-one (line_with_lf c.args.text.now c.in-Some.at found.0.high (λ j lt. found.0.before j (omega arith) lt) found.1);
    }

pub returns-in-None : goal.returns-in-None
returns-in-None c = record {
  within = omega arith;
  some = λ some. some;
  first = λ some. rw (take_all (length c.args.text.now) c.args.text.now (omega arith), drop_all (length c.args.text.now) c.args.text.now (omega arith), no_lines) (line_without_lf c.args.text.now some (λ j lt. c.in-None.ensures j (omega arith) lt));
}
