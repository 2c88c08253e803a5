use Rattle.std.proofs.Common.{◌≡◌, ◌+◌, ◌*◌, length, drop, take}
use Rattle.formulas.specs.EffectTree.{effect_parts_of}
use Rattle.formulas.specs.Variables.{variable_types}
use Rattle.step_codes.specs.Compiling.{FindsMore}
use Rattle.strips_judge.specs.Gathered.{effects_found}
use Rattle.strips_judge.specs.Listing.{candidates_of}
use Rattle.strips_judge.specs.NumberedState.{Grows, state_of}
use Rattle.strips_judge.proofs.EffectWeights.{effect_weight, most_effect_weight}
use Rattle.strips_judge.proofs.Gathering.{of_some}
use Rattle.step_codes.proofs.compiling.+compile.Given as goal

abbrev pub decreases-compile_all : goal.decreases-compile_all
decreases-compile_all l = most_effect_weight (effect_parts_of l.effects.now) + 1

abbrev pub decreases-compile : goal.decreases-compile
decreases-compile l = effect_weight l.effect.now

abbrev pub decreases-compile_when : goal.decreases-compile_when
decreases-compile_when l = effect_weight l.body.now + 1

abbrev pub decreases-compile_choices : goal.decreases-compile_choices
decreases-compile_choices l = effect_weight l.quantified.body.now + 2 * length (drop l.first (variable_types l.quantified.groups.now)) + 1

abbrev pub invariant-compile_all-loop-effect : goal.invariant-compile_all-loop-effect
invariant-compile_all-loop-effect l = record {
  state : state_of l.state ≡ state_of l.fn.state;
  grows : Grows l.fn.state l.state;
  bound : l.room.bound.items ≡ l.fn.room.bound.items;
  compiled : FindsMore l.arguments.task.now l.state.atoms l.fn.program.items l.program.items
      (λ before. effects_found l.arguments.task.now before l.arguments.objects.now l.fn.room.bound.items (take l.effect-index l.effects));
}

abbrev pub invariant-compile_choices-loop-index : goal.invariant-compile_choices-loop-index
invariant-compile_choices-loop-index l = record {
  state : state_of l.state ≡ state_of l.fn.state;
  grows : Grows l.fn.state l.state;
  bound : l.room.bound.items ≡ l.fn.room.bound.items;
  compiled : FindsMore l.arguments.task.now l.state.atoms l.fn.program.items l.program.items
      (λ before. of_some l.arguments.task.now before l.arguments.objects.now l.quantified.body.now (variable_types l.quantified.groups.now) l.first l.types l.fn.room.bound.items
      (take l.index (candidates_of l.candidates)));
}
