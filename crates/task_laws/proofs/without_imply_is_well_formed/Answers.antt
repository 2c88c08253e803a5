use Rattle.task_laws.proofs.ImplicationsFit as fits
use Rattle.task_laws.proofs.without_imply_is_well_formed.Goals as goal

pub returns : goal.returns
returns c = fits.without_imply_is_well_formed c.args._task.now
