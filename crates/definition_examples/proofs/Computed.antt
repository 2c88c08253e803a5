-- The examples, computed: each side of each equation has the same bytes once the definitions are unfolded. A definition that is `unfoldable` and is needed has
-- to be named here.

use Rattle.std.proofs.Common.{refl}
use Rattle.core.specs.Fmt as numbers
use Rattle.judge_engine.specs.Answer as answer
use Rattle.pddl_reader.specs.Conditions as conditions
use Rattle.pddl_reader.specs.Declarations as declarations
use Rattle.pddl_reader.specs.Domain as domain
use Rattle.pddl_reader.specs.Effects as effects
use Rattle.pddl_reader.specs.Functions as functions
use Rattle.pddl_reader.specs.Objects as pddl_reader_objects
use Rattle.pddl_reader.specs.Problem as problem
use Rattle.pddl_reader.specs.Scopes as scopes
use Rattle.pddl_reader.specs.Tables as tables
use Rattle.pddl_reader.specs.Texts as pddl_reader_texts
use Rattle.pddl_reader.specs.TypeOrder as type_order
use Rattle.pddl_reader.specs.Variables as variables
use Rattle.pddl_syntax.specs.Heads as heads
use Rattle.pddl_syntax.specs.Keywords as keywords
use Rattle.pddl_syntax.specs.Levels as levels
use Rattle.pddl_syntax.specs.Optional as optional
use Rattle.pddl_syntax.specs.Syntax as syntax
use Rattle.pddl_syntax.specs.Trees as trees
use Rattle.pddl_tokens.specs.Bytes as bytes
use Rattle.pddl_tokens.specs.Tokens as tokens
use Rattle.pddl_words.specs.DecimalReading as decimal_reading
use Rattle.pddl_words.specs.Kinds as kinds
use Rattle.pddl_words.specs.Words as words
use Rattle.plan_text.specs.Bundle as bundle
use Rattle.plan_text.specs.MarkedNumbers as marked_numbers
use Rattle.plan_text.specs.PlanGrammar as plan_grammar
use Rattle.plan_text.specs.PlanReading as plan_reading
use Rattle.report_text.specs.CostText as cost_text
use Rattle.strips_task.specs.FirstOccurrences as first_occurrences
use Rattle.strips_task.specs.Names as names
use Rattle.strips_task.specs.Steps as steps
use Rattle.strips_task.specs.Types as types
use Rattle.strips_task.specs.WellFormed as well_formed
use Rattle.task_reader.specs.Bindings as bindings
use Rattle.task_reader.specs.Objects as task_reader_objects
use Rattle.task_reader.specs.Texts as task_reader_texts
use Rattle.definition_examples.specs.Examples.{AreExamples}

pub computed : AreExamples
unfolding decimal_reading.digits_of decimal_reading.billionths_of kinds.kind_of_word words.is_name bytes.class_of tokens.pieces_from tokens.pieces heads.is_dash heads.is_either heads.is_keyword heads.is_variable heads.is_term heads.formula_head heads.list_head heads.domain_section heads.action_part heads.problem_section keywords.is_connective keywords.is_quantifier keywords.is_comparison keywords.is_other_reserved keywords.is_change levels.levels levels.here levels.trees optional.guard optional.followed_by optional.both optional.with_front optional.through syntax.lists_of syntax.ended syntax.end_of syntax.behind_word syntax.first_list syntax.lone_name syntax.keywords_of syntax.last_names syntax.name_group syntax.typed_names syntax.names_typed syntax.leading_name syntax.words_of syntax.some_of syntax.names_of syntax.either_in syntax.last_variables syntax.variable_group syntax.typed_variables syntax.variables_typed syntax.atom_of syntax.function_in syntax.leading_word syntax.right_side syntax.equality_of syntax.number_of syntax.amount_of syntax.target_of syntax.increase_of syntax.value_of syntax.negated_atom_in syntax.negated_atom_of syntax.init_item_in syntax.initial_in syntax.begins_literal syntax.may_be_negated syntax.formula_in syntax.formulas_in syntax.lone_formula syntax.negated_in syntax.implied_in syntax.bound_in syntax.negatable_in syntax.headed_formula syntax.effect_in syntax.effects_in syntax.lone_effect syntax.conditional_in syntax.bound_effect_in syntax.headed_effect syntax.predicate_of syntax.predicate_in syntax.functions_of syntax.functions_typed syntax.no_parts syntax.is_part_given syntax.part_by syntax.part_named syntax.parts_of syntax.action_form syntax.action_of syntax.no_domain_sections syntax.is_domain_section_given syntax.domain_section_by syntax.domain_section_headed syntax.domain_section_in syntax.domain_sections_of syntax.header_of syntax.domain_form syntax.domain_by syntax.domain_body syntax.domain_in syntax.domain_syntax syntax.no_problem_sections syntax.goal_of syntax.is_problem_section_given syntax.problem_section_by syntax.problem_section_headed syntax.problem_section_in syntax.problem_sections_of syntax.problem_form syntax.problem_by syntax.problem_body syntax.problem_in syntax.problem_syntax trees.begins_with_list trees.fault_from trees.text_fault conditions.equality_by conditions.implication_by conditions.tree_meant conditions.trees_meant conditions.conjuncts conditions.all_conjuncts conditions.with_condition conditions.conditions_of declarations.may_declare declarations.declared declarations.takes_terms declarations.predicate_taking declarations.predicate_number declarations.fitted_all declarations.fitted_arguments declarations.object_number declarations.term_named declarations.term_fitted declarations.fitting_term declarations.object_fitted declarations.fitting_object declarations.pattern_by declarations.pattern_of declarations.ground_by declarations.ground_of domain.declared_predicate domain.with_predicate domain.predicates_from domain.may_have domain.with_function domain.functions_from domain.action_with domain.action_by domain.action_meant domain.declared_action domain.with_action_of domain.actions_from domain.head_typed domain.head_of domain.domain_with domain.domain_headed domain.domain_of effects.conditional_by effects.effect_meant effects.effects_meant effects.single_effects effects.all_single_effects effects.changed effects.with_change effects.with_effect effects.effects_of functions.total_cost_number functions.counts_costs functions.amount_meant functions.amount_behind functions.with_increase functions.is_not_another functions.value_given functions.with_value_of functions.costs_of pddl_reader_objects.type_number pddl_reader_objects.of_type pddl_reader_objects.object_declared pddl_reader_objects.objects_typed pddl_reader_objects.objects_grouped pddl_reader_objects.objects_from problem.with_atom problem.with_initial problem.initial_of problem.task_with problem.domain_extended problem.problem_within problem.problem_of scopes.scope_within scopes.last_number scopes.bound_term scopes.variable_by scopes.variable_meant scopes.unmarked scopes.all_unmarked scopes.group_kept scopes.bound_with scopes.group_bound scopes.bound_by scopes.quantified tables.value_at tables.value_named pddl_reader_texts.unless_fault pddl_reader_texts.domain_in_text pddl_reader_texts.problem_in_text pddl_reader_texts.domain_of_text pddl_reader_texts.problem_of_text pddl_reader_texts.task_in type_order.numbered type_order.under type_order.counts_as_parent type_order.declared_under type_order.tables_of type_order.type_declared type_order.parent_numbered type_order.group_declared type_order.types_declared type_order.parent_name type_order.parent_number type_order.parents_of type_order.all_below type_order.is_tree type_order.ordered type_order.types_of variables.alternative_behind variables.alternative_named variables.alternatives_of variables.argument_types_with variables.with_group_types variables.argument_types_of variables.variable_number variables.variable_named variables.variables_with variables.group_named variables.variables_of bindings.added bindings.first_past bindings.in_64_bits bindings.with_quantifier bindings.unless_past bindings.past bindings.variable_past bindings.excess_in bindings.goal_excess bindings.excess task_reader_objects.object_count task_reader_texts.unless_excess task_reader_texts.within_limit task_reader_texts.task_in bundle.lines bundle.is_separator bundle.parts marked_numbers.number_before plan_grammar.symbols plan_reading.read_on plan_reading.plan_from plan_reading.plan_of first_occurrences.first_occurrences names.number_named names.are_distinct steps.step_of types.ancestor types.is_within types.is_below types.fits well_formed.are_alternatives well_formed.are_variables well_formed.term_types well_formed.is_fitting well_formed.are_fitting well_formed.is_pattern well_formed.is_object well_formed.is_known well_formed.is_formula well_formed.are_formulas well_formed.is_effect well_formed.are_effects well_formed.is_atom well_formed.is_action cost_text.last_digits cost_text.without_end_zeros answer.judged_plan answer.judged answer.planner_of answer.too_large answer.plan_count answer.answer_as numbers.digits
computed =
    record {
      a_valid_plan = refl;
      a_step_that_is_not_applicable = refl;
      a_plan_without_steps = refl;
      two_plans_in_one_file = refl;
      an_atom_deleted_and_added_is_true = refl;
      an_unmet_negated_goal = refl;
      a_stamp_that_falls = refl;
      types_in_a_ring = refl;
      either_on_both_sides = refl;
      either_with_a_type_too_many = refl;
      costs_and_a_cost_without_a_value = refl;
      conditions_of_effects_are_about_the_state_before = refl;
      quantifiers = refl;
      a_piece_of_another_dialect = refl;
    }
