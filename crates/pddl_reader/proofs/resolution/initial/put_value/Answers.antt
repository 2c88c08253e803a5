use Rattle.std.proofs.Common.{sym, ◌∙◌}
use Rattle.pddl_syntax.specs.Forms.{value_form}
use Rattle.pddl_reader.specs.Resolved.{known_form}
use Rattle.pddl_reader.proofs.InitialLemmas.{value_first, value_again, value_another}
use Rattle.pddl_reader.proofs.resolution.initial.put_value.Goals as goal

pub returns-in-First : goal.returns-in-First
returns-in-First c =
    rw c.in_ok-give.ensures.ok
    (value_first (known_form c.args.functions.now) c.args.values.now (value_form c.args.value.now) c.in_ok-function.function c.in_ok-function.ensures
    (sym c.in_ok-give.ensures.given ∙ c.in-First.is))

pub returns-in-Again : goal.returns-in-Again
returns-in-Again c =
    rw c.in_ok-give.ensures.ok
    (value_again (known_form c.args.functions.now) c.args.values.now (value_form c.args.value.now) c.in_ok-function.function c.in_ok-function.ensures
    (sym c.in_ok-give.ensures.given ∙ c.in-Again.is))

pub returns-in-Another : goal.returns-in-Another
returns-in-Another c =
    rw c.new.ensures (
      λ k. absurd cc,
      λ k. value_another (known_form c.args.functions.now) c.args.values.now (value_form c.args.value.now) c.in_ok-function.function c.in_ok-function.ensures
          (sym c.in_ok-give.ensures.given ∙ c.in-Another.is),
    )
