use Rattle.std.proofs.Common.{◌≡◌, Some, None, unwrap_or, subst, ◌∙◌}
use Rattle.std.proofs.lemmas.Result.{err_from_is_err_and}
use Rattle.std.specs.Map.{keys_of}
use Rattle.pddl_syntax.specs.Syntax.{conjunction, no_formulas, joint_effect, no_effects}
use Rattle.pddl_reader.specs.Conditions.{conditions_of}
use Rattle.pddl_reader.specs.Effects.{effects_of}
use Rattle.pddl_reader.specs.Resolved.{variables_form, vocabulary_form}
use Rattle.pddl_reader.specs.Scopes.{Scope}
use Rattle.pddl_reader.proofs.ActionMeaning.{no_effects_meant, both_meant}
use Rattle.pddl_reader.proofs.resolution.actions.action_by.Goals as goal

pub returns-in_err-effects : goal.returns-in_err-effects
returns-in_err-effects c =
    let types = keys_of c.args.types.now in
    let vocabulary = vocabulary_form c.args.vocabulary.now in
    let syntax = c.args.syntax.now in
    let C : Scope → Type 0 = λ s. conditions_of types vocabulary.atoms s (unwrap_or syntax.parts.precondition (conjunction no_formulas)) ≡ Some c.in_ok-pre.pre in
    let E : Scope → Type 0 = λ s. effects_of types vocabulary s (unwrap_or syntax.parts.effect (joint_effect no_effects)) ≡ None in
    let p = err_from_is_err_and c.from_residual-in_err-effects.result c.from_residual-in_err-effects.ensures.1 in
    let e = c.in_err-effects.ensures.meaning in
    rw (p.1, p.2) (
      e.0,
      λ k. no_effects_meant types vocabulary (variables_form c.args.parameters) syntax c.in_ok-pre.pre (subst C c.outermost-scope.ensures c.in_ok-pre.ensures.meaning)
          (subst E (c.in_ok-pre.ensures.same ∙ c.outermost-scope.ensures) (e.1 k)),
    )

pub returns : goal.returns
returns c =
    let types = keys_of c.args.types.now in
    let vocabulary = vocabulary_form c.args.vocabulary.now in
    let syntax = c.args.syntax.now in
    let C : Scope → Type 0 = λ s. conditions_of types vocabulary.atoms s (unwrap_or syntax.parts.precondition (conjunction no_formulas)) ≡ Some c.in_ok-pre.pre in
    let E : Scope → Type 0 = λ s. effects_of types vocabulary s (unwrap_or syntax.parts.effect (joint_effect no_effects)) ≡ Some c.in_ok-effects.effects in
    let same = c.in_ok-pre.ensures.same ∙ c.outermost-scope.ensures in
    rw (c.into_parameter_types.ensures, c.in_ok-effects.ensures.same ∙ same)
    (both_meant types vocabulary (variables_form c.args.parameters) syntax c.in_ok-pre.pre c.in_ok-effects.effects (subst C c.outermost-scope.ensures c.in_ok-pre.ensures.meaning)
    (subst E same c.in_ok-effects.ensures.meaning))
