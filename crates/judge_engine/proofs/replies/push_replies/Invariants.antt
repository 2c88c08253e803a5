use Rattle.std.proofs.Common.{◌≡◌, ◌++◌, take}
use Rattle.judge_engine.specs.ReplayText.{reply_lines}
use Rattle.judge_engine.proofs.replies.push_replies.Given as goal

-- The lines of the replies so far stand behind the text that was there.
abbrev pub invariant-loop-reply : goal.invariant-loop-reply
invariant-loop-reply l = l.text ≡ l.fn.text ++ reply_lines l.task (take l.reply-index l.replies)
