use Rattle.std.proofs.Common.{◌≡◌, ◌∙◌, ap, sym, slice_get, Some}
use Rattle.std.proofs.lemmas.Bool.{eqb-true}
use Rattle.pddl_reader.proofs.TableLemmas.{argument_types_at, argument_types_counted}
use Rattle.pddl_reader.proofs.resolution.atoms.argument_types_of.Goals as goal

pub returns : goal.returns
returns c =
    let entry = c.get.result in
    let predicates = c.args.predicates.now in
    let got : slice_get predicates c.args.number ≡ Some (entry.0.now, entry.1.now) = ap (slice_get predicates) (sym c.from.ensures) ∙ c.get.ensures in
    record {
      argument_types = rw c.as_slice.ensures (argument_types_at predicates c.args.number entry.0.now entry.1.now got);
      as_many =
          rw c.as_slice.ensures
          (eqb-true _ _ (sym (argument_types_counted predicates c.args.number c.args.count entry.0.now entry.1.now got) ∙ c.requires));
    }
