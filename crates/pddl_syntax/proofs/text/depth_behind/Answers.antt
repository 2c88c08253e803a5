use Rattle.std.proofs.Common.{◌<◌, ◌≤◌, ◌∙◌, ap, sym, arith, length, Some}
use Rattle.pddl_tokens.specs.Lexeme.{pieces_at}
use Rattle.pddl_syntax.specs.Trees.{fault_from}
use Rattle.pddl_syntax.proofs.MarkLemmas.{plain_mark, left_mark, left_deep_mark, right_mark, right_outside_mark, bad_mark}
use Rattle.pddl_syntax.proofs.text.depth_behind.Goals as goal

pub returns-in-Left-clause-fault : goal.returns-in-Left-clause-fault
returns-in-Left-clause-fault c =
    let deep : 64 ≤ c.args.depth = omega (arith, c.if-depth-eq-DEEPEST.true) in
    left_deep_mark (length c.args.text.now) c.args.depth c.args.text.now c.args.at c.requires.within (sym c.in-Left.ensures) deep
    ∙ ap Some (sym c.fault_at.ensures)

pub returns-in-Left-2-clause-same : goal.returns-in-Left-2-clause-same
returns-in-Left-2-clause-same c =
    let few : c.args.depth < 64 = omega (arith, c.if-depth-eq-DEEPEST.false, c.requires.depth) in
    sym (left_mark (length c.args.text.now) c.args.depth c.args.text.now c.args.at c.requires.within (sym c.in-Left-2.ensures) few)

pub returns-in-Right-clause-fault : goal.returns-in-Right-clause-fault
returns-in-Right-clause-fault c =
    ap (λ depth. fault_from (length c.args.text.now) depth (pieces_at c.args.text.now c.args.at)) c.if-depth-eq0.true
    ∙ right_outside_mark (length c.args.text.now) c.args.text.now c.args.at c.requires.within (sym c.in-Right.ensures)
    ∙ ap Some (sym c.fault_at-in-Right.ensures)

pub returns-in-Right-2-clause-same : goal.returns-in-Right-2-clause-same
returns-in-Right-2-clause-same c =
    let some : 0 < c.args.depth = omega (arith, c.if-depth-eq0.false) in
    sym (right_mark (length c.args.text.now) c.args.depth c.args.text.now c.args.at c.requires.within (sym c.in-Right-2.ensures) some)

pub returns-in-Bad-clause-fault : goal.returns-in-Bad-clause-fault
returns-in-Bad-clause-fault c =
    bad_mark (length c.args.text.now) c.args.depth c.args.text.now c.args.at c.requires.within (sym c.in-Bad.ensures)
    ∙ ap Some (sym c.fault_at-in-Bad.ensures)

pub returns-in-Plain-clause-same : goal.returns-in-Plain-clause-same
returns-in-Plain-clause-same c =
    sym (plain_mark (length c.args.text.now) c.args.depth c.args.text.now c.args.at c.requires.within (sym c.in-Plain.ensures))
