use Rattle.std.proofs.Common.{rules, ◌*◌, ◌≤◌, ap}
use denote.Param.Weighed.{most}
use Rattle.pddl_syntax.specs.Heights.{effect_height}
use Rattle.pddl_syntax.specs.declared.syntax.trees.EffectSyntax.TheDeep.{size-EffectSyntax, deep-EffectNode}
use Rattle.pddl_reader.proofs.SyntaxSizes.{effects_smaller}
use Rattle.pddl_reader.proofs.resolution.effects.+effects.Goals as goal

pub effect-joint-requires : goal.effect-joint-requires
effect-joint-requires t c =
    let fits : most size-EffectSyntax c.deref-in-And.result.now ≤ 2 * effect_height c.args.syntax.now =
    effects_smaller c.node.result.now c.args.syntax.now c.in-And.parts.items c.deref-in-And.result.now c.node.ensures (ap deep-EffectNode c.in-And.is) c.deref-in-And.ensures.value in
    search rules
