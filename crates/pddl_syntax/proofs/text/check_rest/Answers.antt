use Rattle.std.proofs.Common.{◌≡◌, ◌∙◌, ap, sym, arith, length, Some, []}
use Rattle.pddl_tokens.proofs.Lemmas.{end_step}
use Rattle.pddl_syntax.specs.Trees.{fault_from}
use Rattle.pddl_syntax.proofs.Depths.{fault_at_end, fault_inside}
use Rattle.pddl_syntax.proofs.text.check_rest.Goals as goal

pub returns-then-lists-eq0-clause-first : goal.returns-then-lists-eq0-clause-first
returns-then-lists-eq0-clause-first c =
    let over : c.bytes.at ≡ length c.args.text.now = omega (arith, c.bytes-test.false, c.bytes.invariant.within) in
    sym c.bytes.invariant.so_far
    ∙ ap (fault_from (length c.args.text.now) c.bytes.lists) (end_step c.args.text.now c.bytes.at over)
    ∙ ap (λ depth. fault_from (length c.args.text.now) depth []) c.if-lists-eq0.true
    ∙ fault_at_end (length c.args.text.now)

pub returns-clause-first : goal.returns-clause-first
returns-clause-first c =
    let over : c.bytes.at ≡ length c.args.text.now = omega (arith, c.bytes-test.false, c.bytes.invariant.within) in
    sym c.bytes.invariant.so_far
    ∙ ap (fault_from (length c.args.text.now) c.bytes.lists) (end_step c.args.text.now c.bytes.at over)
    ∙ fault_inside (length c.args.text.now) c.bytes.lists (omega (arith, c.if-lists-eq0.false))
    ∙ ap Some (sym c.at.ensures)
