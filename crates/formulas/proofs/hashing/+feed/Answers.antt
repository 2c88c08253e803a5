use Rattle.std.proofs.Common.{rules, ◌*◌, ◌≤◌, ap, ◌∙◌}
use Rattle.std.specs.Prelude.{fold}
use denote.Param.Weighed.{most}
use Rattle.formulas.specs.Hashing.{parts_fed}
use Rattle.formulas.specs.Tree.{height, parts_of}
use Rattle.formulas.specs.declared.formula.Formula.TheDeep.{size-Formula, deep-Node}
use Rattle.formulas.proofs.Feeds.{fed_list}
use Rattle.formulas.proofs.Sizes.{list_smaller}
use Rattle.formulas.proofs.hashing.+feed.Goals as goal

pub feed-feed_all-requires : goal.feed-feed_all-requires
feed-feed_all-requires g t c = λ κs within. (
  (let fits : most size-Formula c.deref-in-And.result.now ≤ 2 * height c.args.formula.now =
      list_smaller c.node.result.now c.args.formula.now c.in-And.parts.items c.deref-in-And.result.now c.node.ensures (ap deep-Node c.in-And.is) c.deref-in-And.ensures.value in
      search rules),
  within,
)

pub feed-feed_all-requires-in-Or : goal.feed-feed_all-requires-in-Or
feed-feed_all-requires-in-Or g t c = λ κs within. (
  (let fits : most size-Formula c.deref-in-Or.result.now ≤ 2 * height c.args.formula.now =
      list_smaller c.node.result.now c.args.formula.now c.in-Or.parts.items c.deref-in-Or.result.now c.node.ensures (ap deep-Node c.in-Or.is) c.deref-in-Or.ensures.value in
      search rules),
  within,
)

pub feed_all-returns : goal.feed_all-returns
feed_all-returns g t c =
    fed_list g.H.Hasher.write c.write_u8.new.self c.loop-part.state c.write_u8-2.new.self c.args.parts.now c.loop-part.part-index c.loop-part-test.false c.loop-part.invariant c.write_u8-2.ensures
    ∙ ap (λ begun. fold g.H.Hasher.write begun (parts_fed (parts_of c.args.parts.now))) c.write_u8.ensures
