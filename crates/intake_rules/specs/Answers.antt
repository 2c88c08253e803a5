-- What calls return, as replies.

use Rattle.std.specs.Prelude.{ℕ, Option, Some, None, Result, Ok, Err}
use Rattle.intake_rules.specs.declared.finding.Finding.{Finding}
use Rattle.intake_rules.specs.declared.refusal.Refusal.{Refusal}
use Rattle.intake_rules.specs.declared.reply.Reply.{Reply}
use Rattle.intake_rules.specs.declared.reply.Reply.TheVariants.{Accepted, ClosedNow, Taken, NoJob, Returned, Finished, Emitted, Refused}
use Rattle.intake_rules.specs.declared.given_back.SubmitRefused.{SubmitRefused}
use Rattle.intake_rules.specs.declared.given_back.FinishRefused.{FinishRefused}

-- what `submit` returns, as a reply
abbrev pub submit_reply : Result ℕ SubmitRefused → Reply
submit_reply (Ok number) = Accepted number
submit_reply (Err refused) = Refused refused.refusal

-- what `close` returns, as a reply
abbrev pub close_reply : Result (Unit {0}) Refusal → Reply
close_reply (Ok done) = ClosedNow
close_reply (Err refusal) = Refused refusal

-- what `take` returns, as a reply
abbrev pub take_reply : Option ℕ → Reply
take_reply (Some number) = Taken number
take_reply None = NoJob

-- what `hand_back` returns, as a reply
abbrev pub hand_back_reply : Result (Unit {0}) Refusal → Reply
hand_back_reply (Ok done) = Returned
hand_back_reply (Err refusal) = Refused refusal

-- what `finish` returns, as a reply
abbrev pub finish_reply : Result (Unit {0}) FinishRefused → Reply
finish_reply (Ok done) = Finished
finish_reply (Err refused) = Refused refused.refusal

-- what `emit` returns, as a reply
abbrev pub emit_answer : Result Finding Refusal → Reply
emit_answer (Ok finding) = Emitted finding
emit_answer (Err refusal) = Refused refusal
