-- What reading the two texts says about their task.

use Rattle.std.proofs.Common.{◌≡◌, ℕ, List, None, Some, ap, sym, ◌∙◌}
use Rattle.std.specs.Option.{option_and_then}
use Rattle.pddl_reader.specs.Domain.{DomainValue}
use Rattle.pddl_reader.specs.Texts.{domain_in_text, problem_in_text, task_in as read_in}
use Rattle.pddl_syntax.specs.declared.dialect.Dialect.{Dialect}
use Rattle.strips_task.specs.declared.costs.CostedTask.{CostedTask}
use Rattle.task_reader.specs.declared.excess.Excess.{Excess}
use Rattle.task_reader.specs.Bindings.{excess}
use Rattle.task_reader.specs.Texts.{task_in, unless_excess, within_limit}

module _ (dialect : Dialect) (domain problem : List ℕ) where
  -- the domain is not of the dialect
  pub no_domain : domain_in_text dialect domain ≡ None → task_in dialect domain problem ≡ None
  unfolding task_in read_in
  no_domain none = ap (λ read. option_and_then within_limit (option_and_then (λ value. problem_in_text dialect value problem) read)) none

  module _ (value : DomainValue) (is : domain_in_text dialect domain ≡ Some value) where
    from : task_in dialect domain problem ≡ option_and_then within_limit (problem_in_text dialect value problem)
    unfolding task_in read_in
    from = ap (λ read. option_and_then within_limit (option_and_then (λ value. problem_in_text dialect value problem) read)) is

    -- the problem is not
    pub no_problem : problem_in_text dialect value problem ≡ None → task_in dialect domain problem ≡ None
    no_problem none = from ∙ ap (option_and_then within_limit) none

    -- both are
    pub with_task : (task : CostedTask) → problem_in_text dialect value problem ≡ Some task → task_in dialect domain problem ≡ unless_excess (excess task.task) task
    unfolding within_limit
    with_task task read = from ∙ ap (option_and_then within_limit) read

    pub within : (task : CostedTask) → problem_in_text dialect value problem ≡ Some task → None ≡ excess task.task → task_in dialect domain problem ≡ Some task
    unfolding unless_excess
    within task read none = with_task task read ∙ sym (ap (λ found. unless_excess found task) none)

    pub excessive : (task : CostedTask) (found : Excess) → problem_in_text dialect value problem ≡ Some task → Some found ≡ excess task.task
        → task_in dialect domain problem ≡ None
    unfolding unless_excess
    excessive task found read past = with_task task read ∙ sym (ap (λ found. unless_excess found task) past)
