use Rattle.std.proofs.Common.{◌≡◌, ◌+◌, ◌*◌, ◌&&◌, ◌++◌, ◌∷◌, [], false, ℕ, Bool, length, drop, take}
use Rattle.std.specs.List.{list_any}
use Rattle.formulas.specs.Tree.{parts_of}
use Rattle.formulas.specs.Variables.{variable_types}
use Rattle.strips_judge.specs.Choices.{some_is, some_choice_gives}
use Rattle.strips_judge.specs.Fitting.{object_fits}
use Rattle.strips_judge.specs.Listing.{candidates_of}
use Rattle.strips_judge.specs.NumberedState.{state_of}
use Rattle.strips_judge.proofs.Weights.{weight, most_weight}
use Rattle.strips_judge.proofs.evaluation.+evaluate.Given as goal

abbrev pub decreases-evaluate : goal.decreases-evaluate
decreases-evaluate l = weight l.formula.now

abbrev pub decreases-some_is : goal.decreases-some_is
decreases-some_is l = most_weight (parts_of l.formulas.now) + 1

abbrev pub decreases-some_choice : goal.decreases-some_choice
decreases-some_choice l = weight l.quantified.now.body.now + 4 * length (variable_types l.quantified.now.groups.now) + 2

abbrev pub decreases-some_choice_gives : goal.decreases-some_choice_gives
decreases-some_choice_gives l = weight l.quantified.now.body.now + 4 * length (drop l.first (variable_types l.quantified.now.groups.now)) + 1

abbrev pub decreases-some_object_gives : goal.decreases-some_object_gives
decreases-some_object_gives l = weight l.quantified.now.body.now + 4 * length (drop l.next (variable_types l.quantified.now.groups.now)) + 3

abbrev pub decreases-object_gives : goal.decreases-object_gives
decreases-object_gives l = weight l.quantified.now.body.now + 4 * length (drop l.next (variable_types l.quantified.now.groups.now)) + 2

abbrev pub invariant-some_is-loop-formula : goal.invariant-some_is-loop-formula
invariant-some_is-loop-formula l = record {
  none : some_is l.task (state_of l.fn.state) l.objects l.truth l.fn.room.bound.items (take l.formula-index l.formulas) ≡ false;
  same : l.state ≡ l.fn.state;
  bound : l.room.bound.items ≡ l.fn.room.bound.items;
}

abbrev pub invariant-some_object_gives-loop-index : goal.invariant-some_object_gives-loop-index
invariant-some_object_gives-loop-index l =
    let gives : ℕ → Bool = λ object. object_fits l.task l.types object
    && some_choice_gives l.task (state_of l.fn.state) l.objects l.quantified.truth l.quantified.body.now (drop l.next (variable_types l.quantified.groups.now)) (l.fn.room.bound.items ++ object ∷ []) in
    record {
      left : list_any gives (candidates_of l.candidates) ≡ list_any gives (drop l.index (candidates_of l.candidates));
      same : l.state ≡ l.fn.state;
      bound : l.room.bound.items ≡ l.fn.room.bound.items;
    }
