use Rattle.std.proofs.Common.{sym}
use Rattle.pddl_syntax.specs.Forms.{name_groups}
use Rattle.pddl_reader.specs.Problem.{domain_extended}
use Rattle.pddl_reader.proofs.LookupLemmas.{over_some}
use Rattle.pddl_reader.proofs.resolution.initial.Lookup.over.Goals as goal

pub returns-in-Ok : goal.returns-in-Ok
returns-in-Ok c =
    rw c.new-initial.ensures (sym (over_some (domain_extended c.args.domain (name_groups c.args.objects.now)) c.in-Ok.domain c.in-Ok.ensures))
