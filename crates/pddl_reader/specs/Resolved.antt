-- What resolution keeps, as the definitions name it.

use Rattle.pddl_reader.specs.declared.resolution.variables.DeclaredVariables.{DeclaredVariables}
use Rattle.pddl_reader.specs.declared.resolution.quantifiers.BoundVariables.{BoundVariables}
use Rattle.pddl_reader.specs.declared.resolution.tables.Declared.{Declared}
use Rattle.pddl_reader.specs.declared.resolution.vocabulary.Vocabulary as kept
use Rattle.pddl_reader.specs.Declarations.{Known}
use Rattle.pddl_reader.specs.Functions.{Vocabulary}
use Rattle.pddl_syntax.specs.Forms.{word_forms}
use Rattle.pddl_reader.specs.Scopes as scopes
use Rattle.pddl_reader.specs.Variables.{TypedVariables}

-- variables as the definitions see them
abbrev pub variables_form : DeclaredVariables → TypedVariables
variables_form p = record { names = word_forms p.names.items; types = p.types }

-- the variables of a quantifier as the definitions see them
abbrev pub bound_form : BoundVariables → scopes.BoundVariables
bound_form b = record { declared = variables_form b.declared; groups = b.groups }

-- the declarations as the definitions see them
abbrev pub known_form : Declared → Known
known_form k = record { parents = k.parents.now; objects = k.objects.now; predicates = k.predicates.now }

-- predicates and functions as the definitions see them
abbrev pub vocabulary_form : kept.Vocabulary → Vocabulary
vocabulary_form v = record { atoms = known_form v.atoms; functions = known_form v.functions }
