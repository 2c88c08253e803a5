use Rattle.std.proofs.Common.{◌≡◌, [], Some, None, subst, unwrap_or}
use Rattle.std.proofs.lemmas.Result.{err_from_is_err_and}
use Rattle.pddl_reader.specs.Functions.{Vocabulary}
use Rattle.pddl_reader.specs.Conditions.{conditions_of}
use Rattle.pddl_reader.specs.Scopes.{outermost}
use Rattle.pddl_reader.specs.Variables.{no_variables}
use Rattle.pddl_reader.proofs.ProblemMeaning.{no_goal, problem_meant}
use Rattle.pddl_reader.proofs.WellFormedTasks.{task_well_formed}
use Rattle.pddl_reader.proofs.resolution.problem.resolve_given.Goals as goal

pub returns-clause-meaning : goal.returns-clause-meaning
returns-clause-meaning c =
    let syntax = c.args.syntax.now in
    let G : Vocabulary → Type 0 = λ v. conditions_of c.args.domain.now.types v.atoms (outermost no_variables) syntax.goal ≡ Some c.in_ok-goal.goal in
    rw (c.in_ok-problem.ensures, c.in_ok-atoms.ensures)
    (problem_meant c.args.domain.now syntax c.args.initial c.in_ok-goal.goal c.requires
    (subst G c.vocabulary-vocabulary.ensures.known (rw (← c.types-types.ensures.names, ← c.none-scope.ensures) c.in_ok-goal.ensures.meaning)))

pub returns-clause-well_formed : goal.returns-clause-well_formed
returns-clause-well_formed c =
    let syntax = c.args.syntax.now in
    let G : Vocabulary → Type 0 = λ v. conditions_of c.args.domain.now.types v.atoms (outermost no_variables) syntax.goal ≡ Some c.in_ok-goal.goal in
    rw c.in_ok-atoms.ensures
    (task_well_formed c.args.domain.now c.in_ok-problem.problem (unwrap_or syntax.init []) syntax.goal c.args.initial
    c.in_ok-goal.goal c.vocabulary-vocabulary.ensures.kept c.requires
    (subst G c.vocabulary-vocabulary.ensures.known (rw (← c.types-types.ensures.names, ← c.none-scope.ensures) c.in_ok-goal.ensures.meaning)))

pub returns-in_err-goal-clause-meaning : goal.returns-in_err-goal-clause-meaning
returns-in_err-goal-clause-meaning c =
    let syntax = c.args.syntax.now in
    let p = err_from_is_err_and c.from_residual.result c.from_residual.ensures.1 in
    let e = c.in_err-goal.ensures.meaning in
    let G : Vocabulary → Type 0 = λ v. conditions_of c.args.domain.now.types v.atoms (outermost no_variables) syntax.goal ≡ None in
    rw (p.1, p.2) (
      e.0,
      λ k. no_goal c.args.domain.now syntax c.args.initial c.requires
          (subst G c.vocabulary-vocabulary.ensures.known (rw (← c.types-types.ensures.names, ← c.none-scope.ensures) (e.1 k))),
    )
