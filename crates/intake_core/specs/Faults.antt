-- What a replay that ended early returns.

use Rattle.std.specs.Prelude.{List}
use Rattle.intake_rules.specs.declared.reply.Reply.{Reply}
use Rattle.intake_core.specs.declared.replaying.ReplayFault.{ReplayFault}
use Rattle.intake_core.specs.declared.replaying.ReplayFault.TheVariants.{OutOfMemory}

-- the replies to the steps before the fault
abbrev pub so_far : ReplayFault → List Reply
so_far (OutOfMemory replies) = replies
