use Rattle.std.proofs.Common.{◌≡◌, ◌∙◌, ap, sym}
use Rattle.pddl_syntax.specs.declared.fault.FaultKind.TheVariants.{WrongType, OutOfMemory}
use Rattle.pddl_syntax.specs.declared.fault.ReadFault.{ReadFault}
use Rattle.pddl_reader.specs.Resolved.{known_form}
use Rattle.pddl_reader.proofs.TermLemmas.{object_unfit, object_fit}
use Rattle.pddl_reader.proofs.resolution.terms.fitting_object.Goals as goal

pub returns-then-not-object_fits : goal.returns-then-not-object_fits
returns-then-not-object_fits c = (
  λ k. let z : WrongType ≡ OutOfMemory = sym (ap (λ (f : ReadFault). f.kind) c.new.ensures) ∙ k in cc,
  λ _. object_unfit (known_form c.args.known.now) c.args.allowed.now c.args.word.text.now c.in_ok-number.number c.in_ok-number.ensures
      (sym c.object_fits.ensures ∙ c.if-not-object_fits.true),
)

pub returns : goal.returns
returns c =
    object_fit (known_form c.args.known.now) c.args.allowed.now c.args.word.text.now c.in_ok-number.number c.in_ok-number.ensures
    (sym c.object_fits.ensures ∙ c.if-not-object_fits.false)
