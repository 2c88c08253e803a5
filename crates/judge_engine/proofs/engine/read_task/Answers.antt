use Rattle.judge_engine.proofs.Refusals.{told_at_once}
use Rattle.judge_engine.proofs.engine.read_task.Goals as goal

pub returns-in-Err-Domain-clause-domain_text : goal.returns-in-Err-Domain-clause-domain_text
returns-in-Err-Domain-clause-domain_text c =
    told_at_once c.args.domain.now _ c.in-Err-Domain.fault c.refusal.result c.in-Err-Domain.field-0-is c.refusal.ensures.other c.in-Err-Domain.ensures.domain_text
