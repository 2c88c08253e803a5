use Rattle.std.proofs.lemmas.Result.{err_from_is_err_and}
use Rattle.pddl_syntax.specs.Forms.{domain_syntax_form}
use Rattle.pddl_reader.proofs.TextLemmas.{domain_fault, domain_form_of, domain_no_syntax}
use Rattle.pddl_reader.proofs.readers.read_domain_in.Goals as goal

pub returns-in_err-check_text-clause-domain : goal.returns-in_err-check_text-clause-domain
returns-in_err-check_text-clause-domain c =
    let p = err_from_is_err_and c.from_residual.result c.from_residual.ensures.1 in
    let e = c.in_err-check_text.ensures in
    rw (p.1, p.2) (λ k. absurd (e.kind k), λ k. domain_fault c.args.dialect c.args.text.now _ e.first)

pub returns-in_err-syntax-clause-domain : goal.returns-in_err-syntax-clause-domain
returns-in_err-syntax-clause-domain c =
    let p = err_from_is_err_and c.from_residual-in_err-syntax.result c.from_residual-in_err-syntax.ensures.1 in
    let e = c.in_err-syntax.ensures in
    rw (p.1, p.2) (e.0, λ k. domain_no_syntax c.args.dialect c.args.text.now c.in_ok-check_text.ensures.first (e.1 k))

pub returns-clause-domain : goal.returns-clause-domain
returns-clause-domain c =
    rw (domain_form_of c.args.dialect c.args.text.now (domain_syntax_form c.in_ok-syntax.syntax) c.in_ok-check_text.ensures.first c.in_ok-syntax.ensures) c.resolve_domain.ensures
