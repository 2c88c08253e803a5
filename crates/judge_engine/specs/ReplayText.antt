-- The lines of a replay: the text of what an intake answers (this validator's choice).

use Rattle.std.specs.Prelude.{ℕ, List, [], ◌++◌, codes, decimal}
use Rattle.std.specs.List.{flat_map}
use Rattle.strips_task.specs.declared.tasks.TaskParts.{TaskParts}
use Rattle.intake_rules.specs.declared.refusal.Refusal.{Refusal}
use Rattle.intake_rules.specs.declared.refusal.Refusal.TheVariants.{NotReady}
use Rattle.intake_rules.specs.declared.reply.Reply.{Reply}
use Rattle.intake_rules.specs.declared.reply.Reply.TheVariants.{Accepted, ClosedNow, Taken, NoJob, Returned, Finished, Emitted, Refused}
use Rattle.intake_rules.specs.Refusals.{refusal_word}
use Rattle.report_text.specs.Report.{as_judged}
use Rattle.report_text.specs.Report.{judged_text}

-- what follows the word of a refusal: the number of the job that is not ready
abbrev pub refusal_number : Refusal → List ℕ
refusal_number (NotReady job) = codes " " ++ decimal job
refusal_number _ = []

-- what is answered; for an emitted finding, the number of its job, its verdict, and its cost as in a report
abbrev pub reply_text : TaskParts → Reply → List ℕ
reply_text task (Accepted job) = codes "accepted " ++ decimal job
reply_text task ClosedNow = codes "closed"
reply_text task (Taken job) = codes "took " ++ decimal job
reply_text task NoJob = codes "none"
reply_text task Returned = codes "returned"
reply_text task Finished = codes "finished"
reply_text task (Emitted finding) = codes "emitted " ++ decimal finding.job.number ++ codes " " ++ judged_text task (as_judged finding)
reply_text task (Refused why) = codes "refused " ++ refusal_word why ++ refusal_number why

-- the line of an answer
abbrev pub reply_line : TaskParts → Reply → List ℕ
reply_line task reply = reply_text task reply ++ codes "\n"

-- the lines of all answers
abbrev pub reply_lines : TaskParts → List Reply → List ℕ
reply_lines task replies = flat_map (reply_line task) replies
