use Rattle.std.proofs.Common.{ap, sym, ◌∙◌, refl}
use Rattle.std.proofs.lemmas.List.{map-set}
use Rattle.intake_core.specs.Rows.{linked, links_in}
use Rattle.intake_core.proofs.Keeping.{jobs-written, stages-unwritten}
use Rattle.intake_core.proofs.desk.link.Goals as goal

pub returns-in-Some-clause-jobs : goal.returns-in-Some-clause-jobs
returns-in-Some-clause-jobs c = jobs-written _ _ c.index_mut.result.now _ c.index_mut.ensures.value refl

pub returns-in-Some-clause-stages : goal.returns-in-Some-clause-stages
returns-in-Some-clause-stages c = stages-unwritten _ _ c.index_mut.result.now _ c.index_mut.ensures.value refl

pub returns-in-Some-clause-links : goal.returns-in-Some-clause-links
returns-in-Some-clause-links c =
    map-set (λ row. row.following) c.args.table.now.items c.in-Some.job _ ∙ ap (λ last. linked (links_in c.args.table.now.items) last c.args.number) (sym c.in-Some.is)
