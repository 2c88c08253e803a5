-- A request is what the words of a command line ask for.

use Rattle.std.specs.Prelude.{◌≡◌, ℕ, true, List, map}
use Rattle.command_line.specs.Words.{asks_for_help}
use Rattle.commands.specs.Command.{AsksToJudge, AsksToReplay, AsksToExplain, AsksToValidate}
use Rattle.commands.specs.declared.requests.Request.{Request}
use Rattle.commands.specs.declared.requests.Request.TheVariants.{Judge, Replay, Explain, Validate, Show, Refused}

-- what is asked for; any words may be refused
abbrev pub IsAskedFor : List (List ℕ) → Request → Type 0
IsAskedFor words (Judge files) =
    AsksToJudge words files.dialect files.format files.domain.now files.problem.now (map (λ name. name.now) files.plans.items)
IsAskedFor words (Replay files) = AsksToReplay words files.dialect files.domain.now files.problem.now files.steps.now
IsAskedFor words (Explain files) = AsksToExplain words files.dialect files.domain.now files.problem.now (map (λ name. name.now) files.plans.items)
IsAskedFor words (Validate files) = AsksToValidate words files.dialect files.domain.now files.problem.now (map (λ name. name.now) files.plans.items)
IsAskedFor words (Show text) = asks_for_help words ≡ true
IsAskedFor words (Refused text) = Unit {0}
