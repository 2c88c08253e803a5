use Rattle.std.proofs.Common.{ℕ, ◌+◌, IsTrue, take}
use Rattle.std.specs.List.{list_all}
use Rattle.formulas.specs.EffectTree.{effect_parts_of}
use Rattle.strips_judge.specs.Statics.{IsUnmarked, spares}
use Rattle.strips_judge.proofs.EffectWeights.{effect_weight, most_effect_weight}
use Rattle.strips_judge.proofs.task_index.+mark_effect.Given as goal

abbrev pub decreases-mark_effects : goal.decreases-mark_effects
decreases-mark_effects l = most_effect_weight (effect_parts_of l.effects.now) + 1

abbrev pub decreases-mark_effect : goal.decreases-mark_effect
decreases-mark_effect l = effect_weight l.effect.now

abbrev pub invariant-mark_effects-loop-effect : goal.invariant-mark_effects-loop-effect
invariant-mark_effects-loop-effect l = (pred : ℕ) → IsUnmarked l.marks.items pred → IsUnmarked l.fn.marks.items pred × IsTrue (list_all (spares pred) (take l.effect-index l.effects))
