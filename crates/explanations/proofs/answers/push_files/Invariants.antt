use Rattle.std.proofs.Common.{◌≡◌, take}
use Rattle.explanations.specs.AllValid.{are_all_valid}
use Rattle.explanations.proofs.answers.push_files.Given as goal

abbrev pub invariant-loop-file : goal.invariant-loop-file
invariant-loop-file l = record {
  judge : l.judge ≡ l.fn.judge;
  valid : l.tally.all_valid ≡ are_all_valid l.fn.judge (take l.file-index l.plans);
}
