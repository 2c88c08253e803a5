use Rattle.std.proofs.Common.{◌∙◌}
use Rattle.std.proofs.lemmas.Result.{err_from_is_err_and}
use Rattle.pddl_syntax.specs.Forms.{problem_syntax_form}
use Rattle.pddl_reader.proofs.LookupLemmas.{whole_found, whole_refused}
use Rattle.pddl_reader.proofs.ProblemMeaning.{when_extended}
use Rattle.pddl_reader.proofs.TextLemmas.{problem_form_of}
use Rattle.pddl_reader.proofs.readers.checked_problem.Goals as goal

pub returns-in_err-domain : goal.returns-in_err-domain
returns-in_err-domain c =
    let p = err_from_is_err_and c.from_residual-in_err-domain.result c.from_residual-in_err-domain.ensures.1 in
    let e = c.in_err-domain.ensures c.args.domain _ c.in_ok-syntax.ensures.taken in
    let form = problem_syntax_form c.in_ok-syntax.syntax in
    rw (p.1, p.2) (
      e.0,
      λ k. problem_form_of c.args.dialect c.args.domain c.args.text.now form c.requires c.in_ok-syntax.ensures.read ∙ whole_refused c.args.domain _ form (e.1 k),
    )

pub resolve_problem-requires : goal.resolve_problem-requires
resolve_problem-requires c =
    (whole_found c.args.domain _ (problem_syntax_form c.in_ok-syntax.syntax) c.in_ok-domain.domain c.in_ok-domain.initial
    (c.in_ok-domain.ensures c.args.domain _ c.in_ok-syntax.ensures.taken)).1

pub returns : goal.returns
returns c =
    let form = problem_syntax_form c.in_ok-syntax.syntax in
    let both = whole_found c.args.domain _ form c.in_ok-domain.domain c.in_ok-domain.initial (c.in_ok-domain.ensures c.args.domain _ c.in_ok-syntax.ensures.taken) in
    rw (
      problem_form_of c.args.dialect c.args.domain c.args.text.now form c.requires c.in_ok-syntax.ensures.read,
      when_extended c.args.domain c.in_ok-domain.domain form both.0,
    ) c.resolve_problem.ensures
