use Rattle.std.proofs.Common.{◌∷◌, ◌++◌, [], ap, ◌∙◌, map, drop}
use Rattle.std.proofs.lemmas.List.{drop-append-le}
use Rattle.pddl_words.specs.Words.{folded}
use Rattle.strips_task.specs.Steps.{step_at}
use Rattle.strips_task.proofs.StepWords.{steps_kept}
use Rattle.strips_task.proofs.steps.OpenSteps.push_word.Goals as goal

pub returns-clause-ok : goal.returns-clause-ok
returns-clause-ok c =
    let words = c.self.inside.words in
    let ranges = c.self.inside.ranges.items in
    let steps = ap (λ l. map (step_at l) ranges) c.in_ok-push_folded.ensures.ok ∙ steps_kept words (folded c.args.word.now ∷ []) ranges c.self.invariant.0
    ∙ ap (λ v. v.steps) c.self.view_is in
    let rest = ap (drop c.self.inside.first) c.in_ok-push_folded.ensures.ok ∙ drop-append-le c.self.inside.first words (folded c.args.word.now ∷ []) c.self.invariant.2
    ∙ ap (λ v. v.words ++ folded c.args.word.now ∷ []) c.self.view_is in
    λ j. record { steps = steps j; words = rest j }
