use Rattle.std.proofs.Common.{rules, ◌*◌, ◌≤◌, ap}
use denote.Param.Weighed.{most}
use Rattle.pddl_syntax.specs.Heights.{effect_height}
use Rattle.pddl_syntax.specs.declared.syntax.trees.EffectSyntax.TheDeep.{size-EffectSyntax, deep-EffectNode}
use Rattle.task_reader.proofs.SyntaxSizes.{effects_smaller}
use Rattle.task_reader.proofs.spans.+effects.Goals as goal

pub in_effect-in_effects-requires : goal.in_effect-in_effects-requires
in_effect-in_effects-requires t c = (
  (let fits : most size-EffectSyntax c.deref.result.now ≤ 2 * effect_height c.args.effect.now =
      effects_smaller c.node.result.now c.args.effect.now c.in-And.parts.items c.deref.result.now c.node.ensures (ap deep-EffectNode c.in-And.is) c.deref.ensures.value in
      search rules),
  tt,
)
