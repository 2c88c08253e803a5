use Rattle.std.proofs.Common.{◌≡◌, [], drop}
use Rattle.std.specs.List.{list_all, zip}
use Rattle.formulas.specs.declared.terms.Term.TheVariants.{Object}
use Rattle.strips_task.specs.WellFormed.{is_fitting, term_types}
use Rattle.pddl_reader.proofs.resolution.rows.each_fits.Given as goal

abbrev pub invariant-loop-index : goal.invariant-loop-index
invariant-loop-index l =
    list_all (λ p. is_fitting l.known.parents.now (term_types l.known.objects.now [] [] (Object p.0)) p.1) (zip l.objects l.argument_types)
    ≡ list_all (λ p. is_fitting l.known.parents.now (term_types l.known.objects.now [] [] (Object p.0)) p.1) (zip (drop l.index l.objects) (drop l.index l.argument_types))
