use Rattle.std.proofs.Common.{◌≡◌, ◌+◌, ◌*◌, length, drop, take}
use Rattle.formulas.specs.EffectTree.{effect_parts_of}
use Rattle.formulas.specs.Variables.{variable_types}
use Rattle.strips_judge.specs.Gathered.{GathersMore, effects_found, kept}
use Rattle.strips_judge.specs.Listing.{candidates_of}
use Rattle.strips_judge.specs.NumberedState.{Grows, state_of}
use Rattle.strips_judge.proofs.EffectWeights.{effect_weight, most_effect_weight}
use Rattle.strips_judge.proofs.Gathering.{of_some}
use Rattle.strips_judge.proofs.effects.+gather.Given as goal

abbrev pub decreases-gather_all : goal.decreases-gather_all
decreases-gather_all l = most_effect_weight (effect_parts_of l.effects.now) + 1

abbrev pub decreases-gather : goal.decreases-gather
decreases-gather l = effect_weight l.effect.now

abbrev pub decreases-gather_choices : goal.decreases-gather_choices
decreases-gather_choices l = effect_weight l.quantified.body.now + 2 * length (drop l.first (variable_types l.quantified.groups.now)) + 1

abbrev pub invariant-gather_all-loop-effect : goal.invariant-gather_all-loop-effect
invariant-gather_all-loop-effect l = record {
  state : state_of l.state ≡ state_of l.fn.state;
  grows : Grows l.fn.state l.state;
  bound : l.room.bound.items ≡ l.fn.room.bound.items;
  gathered : GathersMore (state_of l.fn.state) l.fn.state.atoms l.state.atoms (kept l.fn.changes) (kept l.changes)
      (effects_found l.arguments.task.now (state_of l.fn.state) l.arguments.objects.now l.fn.room.bound.items (take l.effect-index l.effects));
}

abbrev pub invariant-gather_choices-loop-index : goal.invariant-gather_choices-loop-index
invariant-gather_choices-loop-index l = record {
  state : state_of l.state ≡ state_of l.fn.state;
  grows : Grows l.fn.state l.state;
  bound : l.room.bound.items ≡ l.fn.room.bound.items;
  gathered : GathersMore (state_of l.fn.state) l.fn.state.atoms l.state.atoms (kept l.fn.changes) (kept l.changes)
      (of_some l.arguments.task.now (state_of l.fn.state) l.arguments.objects.now l.quantified.body.now (variable_types l.quantified.groups.now) l.first l.types l.fn.room.bound.items
      (take l.index (candidates_of l.candidates)));
}
