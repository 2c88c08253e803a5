use Rattle.std.proofs.Common.{◌≡◌, drop}
use Rattle.pddl_reader.specs.Declarations.{fitted_all, fitting_term}
use Rattle.pddl_syntax.specs.Forms.{word_forms}
use Rattle.pddl_syntax.specs.Optional.{with_front}
use Rattle.pddl_reader.specs.Resolved.{known_form}
use Rattle.pddl_reader.proofs.resolution.terms.fitting_terms.Given as goal

abbrev pub invariant-argument_types : goal.invariant-argument_types
invariant-argument_types l =
    with_front l.terms (fitted_all (fitting_term (known_form l.known) l.scope) (drop l.index l.argument_types) (word_forms (drop l.index l.words)))
    ≡ fitted_all (fitting_term (known_form l.known) l.scope) l.argument_types (word_forms l.words)
