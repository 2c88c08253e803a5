use Rattle.task_laws.proofs.WrittenOutFits as fits
use Rattle.task_laws.proofs.written_out_is_well_formed.Goals as goal

pub returns : goal.returns
returns c = fits.written_out_is_well_formed c.args._task.now
