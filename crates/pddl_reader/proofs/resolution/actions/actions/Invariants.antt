use Rattle.std.proofs.Common.{◌≡◌, drop}
use Rattle.std.specs.Map.{keys_of}
use Rattle.pddl_reader.specs.Domain.{no_actions, with_action_of}
use Rattle.pddl_syntax.specs.Forms.{action_forms}
use Rattle.pddl_syntax.specs.Optional.{through}
use Rattle.pddl_reader.specs.Resolved.{vocabulary_form}
use Rattle.pddl_reader.proofs.resolution.actions.actions.Given as goal

abbrev pub invariant-actions : goal.invariant-actions
invariant-actions l =
    through (with_action_of (keys_of l.types) (vocabulary_form l.vocabulary)) l.tables (action_forms (drop l.action-index l.declared))
    ≡ through (with_action_of (keys_of l.types) (vocabulary_form l.vocabulary)) no_actions (action_forms l.declared)
