use Rattle.std.proofs.Common.{◌+◌, ◌<◌, ◌∙◌, ap, sym, refl, arith, length, w64}
use Rattle.std.proofs.lemmas.Result.{err_from_is_err_and}
use Rattle.std.specs.Int.{trailing_zeros}
use Rattle.pddl_syntax.specs.Trees.{fault_from}
use Rattle.pddl_syntax.proofs.BlockLemmas.{block_marked, lowest_within, to_lowest, to_end, marked_behind}
use Rattle.pddl_syntax.proofs.text.pass_block.Goals as goal

pub marks-init : goal.marks-init
marks-init c = record {
  so_far = refl;
  depth = c.requires.depth;
  from = omega arith;
  within = omega arith;
  marked = block_marked c.args.text.now c.args.at c.special_bits-special.result c.special_bits-special.ensures.bits c.special_bits-special.ensures.within;
}

pub bounds-text-place : goal.bounds-text-place
bounds-text-place c =
    let some : 0 < c.marks.special = omega (arith, c.marks-test.true) in
    let lowest = lowest_within c.args.text.now c.marks.seen (c.args.at + 32) c.marks.special c.marks.invariant.marked some c.marks.auto.special-fits.fits in
    omega (arith, c.requires.room)

pub comment_end-requires-clause-within : goal.comment_end-requires-clause-within
comment_end-requires-clause-within c =
    let some : 0 < c.marks.special = omega (arith, c.marks-test.true) in
    let lowest = lowest_within c.args.text.now c.marks.seen (c.args.at + 32) c.marks.special c.marks.invariant.marked some c.marks.auto.special-fits.fits in
    omega (arith, c.requires.room)

pub returns-then-is_semicolon-clause-same : goal.returns-then-is_semicolon-clause-same
returns-then-is_semicolon-clause-same c =
    let some : 0 < c.marks.special = omega (arith, c.marks-test.true) in
    ap (fault_from (length c.args.text.now) c.marks.lists) c.comment_end.ensures.same
    ∙ to_lowest c.args.text.now c.marks.seen (c.args.at + 32) c.marks.special c.marks.lists c.marks.invariant.marked some c.marks.auto.special-fits.fits c.requires.room
    ∙ c.marks.invariant.so_far

pub depth_behind-requires-clause-within : goal.depth_behind-requires-clause-within
depth_behind-requires-clause-within c =
    let some : 0 < c.marks.special = omega (arith, c.marks-test.true) in
    let lowest = lowest_within c.args.text.now c.marks.seen (c.args.at + 32) c.marks.special c.marks.invariant.marked some c.marks.auto.special-fits.fits in
    omega (arith, c.requires.room)

pub returns-in_err-lists-clause-fault : goal.returns-in_err-lists-clause-fault
returns-in_err-lists-clause-fault c =
    let some : 0 < c.marks.special = omega (arith, c.marks-test.true) in
    let e = err_from_is_err_and c.from_residual.result c.from_residual.ensures.1 in
    rw (e.1, e.2)
    (sym (to_lowest c.args.text.now c.marks.seen (c.args.at + 32) c.marks.special c.marks.lists c.marks.invariant.marked some c.marks.auto.special-fits.fits c.requires.room
    ∙ c.marks.invariant.so_far)
    ∙ c.in_err-lists.ensures.fault)

pub overflow_shr-special : goal.overflow_shr-special
overflow_shr-special c =
    let some : 0 < c.marks.special = omega (arith, c.marks-test.true) in
    let lowest = lowest_within c.args.text.now c.marks.seen (c.args.at + 32) c.marks.special c.marks.invariant.marked some c.marks.auto.special-fits.fits in
    omega (arith, c.marks.invariant.from)

pub marks-smaller : goal.marks-smaller
marks-smaller c =
    let some : 0 < c.marks.special = omega (arith, c.marks-test.true) in
    let lowest = lowest_within c.args.text.now c.marks.seen (c.args.at + 32) c.marks.special c.marks.invariant.marked some c.marks.auto.special-fits.fits in
    omega arith

pub marks-preserved : goal.marks-preserved
marks-preserved c =
    let some : 0 < c.marks.special = omega (arith, c.marks-test.true) in
    let lowest = lowest_within c.args.text.now c.marks.seen (c.args.at + 32) c.marks.special c.marks.invariant.marked some c.marks.auto.special-fits.fits in
    record {
      so_far =
          c.in_ok-lists.ensures.same
          ∙ to_lowest c.args.text.now c.marks.seen (c.args.at + 32) c.marks.special c.marks.lists c.marks.invariant.marked some c.marks.auto.special-fits.fits c.requires.room
          ∙ c.marks.invariant.so_far;
      depth = c.in_ok-lists.ensures.depth;
      from = omega (arith, c.marks.invariant.from);
      within = omega arith;
      marked = marked_behind c.args.text.now c.marks.seen (c.args.at + 32) c.marks.special (trailing_zeros w64 c.marks.special) c.marks.invariant.marked;
    }

pub returns-clause-same : goal.returns-clause-same
returns-clause-same c =
    to_end c.args.text.now c.marks.seen (c.args.at + 32) c.marks.special c.marks.lists c.marks.invariant.marked c.marks-test.false c.marks.invariant.within c.requires.room
    ∙ c.marks.invariant.so_far
