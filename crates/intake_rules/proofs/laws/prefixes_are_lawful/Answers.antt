use Rattle.intake_rules.proofs.Lawful as lemmas
use Rattle.intake_rules.proofs.laws.prefixes_are_lawful.Goals as goal

pub returns : goal.returns
returns c = λ planners slots task history count. (
  lemmas.lawful_prefix planners slots history count,
  lemmas.least_prefix planners history count,
  lemmas.right_prefix task history count,
)
