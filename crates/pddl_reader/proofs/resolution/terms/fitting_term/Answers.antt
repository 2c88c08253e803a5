use Rattle.std.proofs.Common.{◌≡◌, ◌∙◌, ap, sym}
use Rattle.pddl_syntax.specs.declared.fault.FaultKind.TheVariants.{WrongType, OutOfMemory}
use Rattle.pddl_syntax.specs.declared.fault.ReadFault.{ReadFault}
use Rattle.pddl_reader.specs.Resolved.{known_form}
use Rattle.pddl_reader.proofs.TermLemmas.{term_unfit, term_fit}
use Rattle.pddl_reader.proofs.resolution.terms.fitting_term.Goals as goal

pub returns-then-not-fits : goal.returns-then-not-fits
returns-then-not-fits c = (
  λ k. let z : WrongType ≡ OutOfMemory = sym (ap (λ (f : ReadFault). f.kind) c.new.ensures) ∙ k in cc,
  λ _. term_unfit (known_form c.args.known.now) c.args.scope.now c.args.allowed.now c.args.word.text.now c.in_ok-found.found c.in_ok-found.ensures
      (sym c.fits.ensures ∙ c.if-not-fits.true),
)

pub returns : goal.returns
returns c =
    term_fit (known_form c.args.known.now) c.args.scope.now c.args.allowed.now c.args.word.text.now c.in_ok-found.found c.in_ok-found.ensures
    (sym c.fits.ensures ∙ c.if-not-fits.false)
