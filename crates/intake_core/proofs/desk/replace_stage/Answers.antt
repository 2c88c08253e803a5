use Rattle.std.proofs.Common.{ap, ◌∙◌, refl}
use Rattle.std.proofs.lemmas.List.{map-set}
use Rattle.intake_core.specs.Rows.{stages_in}
use Rattle.std.proofs.Common.{set}
use Rattle.intake_core.proofs.Keeping.{jobs-written, links-written}
use Rattle.intake_core.proofs.desk.replace_stage.Goals as goal

pub returns-clause-jobs : goal.returns-clause-jobs
returns-clause-jobs c = jobs-written _ _ c.index_mut.result.now _ c.index_mut.ensures.value refl

pub returns-clause-stages : goal.returns-clause-stages
returns-clause-stages c =
    map-set (λ row. row.stage) c.args.table.now.items c.args.job _ ∙ ap (set (stages_in c.args.table.now.items) c.args.job) c.replace.ensures.after

pub returns-clause-links : goal.returns-clause-links
returns-clause-links c = links-written _ _ c.index_mut.result.now _ c.index_mut.ensures.value refl
