-- The syntax that the reader keeps, as the definitions name it.

use Rattle.std.specs.Prelude.{ℕ, List, [], map, unwrap_or}
use Rattle.std.specs.Option.{option_map}
use Rattle.pddl_syntax.specs.declared.walk.Word.{Word}
use Rattle.pddl_syntax.specs.declared.walk.NameWord.{NameWord}
use Rattle.pddl_syntax.specs.declared.syntax.AtomSyntax.{AtomSyntax}
use Rattle.pddl_syntax.specs.declared.syntax.EqualitySyntax.{EqualitySyntax}
use Rattle.pddl_syntax.specs.declared.syntax.AmountSyntax.{AmountSyntax}
use Rattle.pddl_syntax.specs.declared.syntax.AmountSyntax.TheVariants as amounts
use Rattle.pddl_syntax.specs.declared.syntax.ValueSyntax.{ValueSyntax}
use Rattle.pddl_syntax.specs.declared.syntax.InitialSyntax.{InitialSyntax}
use Rattle.pddl_syntax.specs.declared.syntax.InitialSyntax.TheVariants as initials
use Rattle.pddl_syntax.specs.declared.syntax.PredicateSyntax.{PredicateSyntax}
use Rattle.pddl_syntax.specs.declared.syntax.NameGroup as groups
use Rattle.pddl_syntax.specs.declared.syntax.VariableGroup as variables
use Rattle.pddl_syntax.specs.declared.syntax.ActionParts as parts
use Rattle.pddl_syntax.specs.declared.syntax.ActionSyntax.{ActionSyntax}
use Rattle.pddl_syntax.specs.declared.syntax.DomainSections as domain
use Rattle.pddl_syntax.specs.declared.syntax.DomainSyntax.{DomainSyntax}
use Rattle.pddl_syntax.specs.declared.syntax.ProblemSections as problem
use Rattle.pddl_syntax.specs.declared.syntax.ProblemSyntax.{ProblemSyntax}
use Rattle.pddl_syntax.specs.Syntax.{NameGroup, VariableGroup, AtomForm, EqualityForm, AmountForm, number_amount, function_amount, ValueForm, InitialForm, initial_atom, initial_value, conjunction, no_formulas, PredicateForm, ActionForm, ActionParts, DomainForm, DomainSections, ProblemForm, ProblemSections, action_form, domain_form}

-- the bytes of a word
abbrev pub word_form : Word → List ℕ
word_form w = w.text.now

-- a name
abbrev pub name_form : NameWord → List ℕ
name_form w = w.text.now

-- names
unfoldable pub name_forms : List NameWord → List (List ℕ)
name_forms ws = map name_form ws

-- names with their type
abbrev pub name_group_form : groups.NameGroup → NameGroup
name_group_form g = record { names = name_forms g.names.items; type = g.kind.text.now }

-- groups of names
unfoldable pub name_groups : List groups.NameGroup → List NameGroup
name_groups gs = map name_group_form gs

-- words
unfoldable pub word_forms : List Word → List (List ℕ)
word_forms ws = map word_form ws

-- variables with their types
abbrev pub variable_group_form : variables.VariableGroup → VariableGroup
variable_group_form g = record { variables = word_forms g.variables.items; types = name_forms g.kinds.items }

-- groups of variables
unfoldable pub variable_groups : List variables.VariableGroup → List VariableGroup
variable_groups gs = map variable_group_form gs

-- an atom
abbrev pub atom_form : AtomSyntax → AtomForm
atom_form a = record { predicate = a.predicate.text.now; terms = word_forms a.terms.items }

-- an equality
abbrev pub equality_form : EqualitySyntax → EqualityForm
equality_form e = record { left = e.left.text.now; right = e.right.text.now }

-- what an action adds to the cost
abbrev pub amount_form : AmountSyntax → AmountForm
amount_form (amounts.Number n) = number_amount n
amount_form (amounts.Function f) = function_amount (atom_form f)

-- the initial value of a function
abbrev pub value_form : ValueSyntax → ValueForm
value_form v = record { function = atom_form v.function; value = v.value }

-- an initial atom or value
abbrev pub initial_form : InitialSyntax → InitialForm
initial_form (initials.Atom positive a) = initial_atom positive (atom_form a)
initial_form (initials.Value v) = initial_value (value_form v)

-- a predicate with its variables
abbrev pub predicate_form : PredicateSyntax → PredicateForm
predicate_form p = record { name = p.name.text.now; variables = p.variables }

-- predicates
unfoldable pub predicate_forms : List PredicateSyntax → List PredicateForm
predicate_forms ps = map predicate_form ps

-- the parts of an action
unfoldable pub parts_form : parts.ActionParts → ActionParts
parts_form p = record {
  parameters = p.parameters;
  precondition = p.precondition;
  effect = p.effect;
}

-- an action
abbrev pub action_syntax_form : ActionSyntax → ActionForm
action_syntax_form a = action_form a.name.text.now (parts_form a.parts)

-- actions
unfoldable pub action_forms : List ActionSyntax → List ActionForm
action_forms actions = map action_syntax_form actions

-- the sections of a domain
unfoldable pub domain_sections_form : domain.DomainSections → DomainSections
domain_sections_form s = record {
  requirements = s.requirements;
  types = option_map (λ v. name_groups v.items) s.types;
  constants = option_map (λ v. name_groups v.items) s.constants;
  predicates = option_map (λ v. predicate_forms v.items) s.predicates;
  functions = option_map (λ v. predicate_forms v.items) s.functions;
  actions = action_forms s.actions.items;
}

-- a domain
abbrev pub domain_syntax_form : DomainSyntax → DomainForm
domain_syntax_form d = domain_form d.name.text.now (domain_sections_form d.sections)

-- the sections of a problem
unfoldable pub problem_sections_form : problem.ProblemSections → ProblemSections
problem_sections_form s = record {
  domain = option_map name_form s.domain;
  requirements = s.requirements;
  objects = option_map (λ v. name_groups v.items) s.objects;
  init = s.init;
  goal = s.goal;
  metric = s.metric;
  length = s.length;
}

-- a problem
abbrev pub problem_syntax_form : ProblemSyntax → ProblemForm
problem_syntax_form p = record {
  name = p.name.text.now;
  domain = p.domain.text.now;
  objects = unwrap_or (option_map (λ v. name_groups v.items) p.objects) [];
  init = unwrap_or p.init [];
  goal = p.goal;
}
