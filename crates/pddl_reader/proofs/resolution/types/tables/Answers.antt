use Rattle.pddl_syntax.specs.Forms.{name_groups}
use Rattle.pddl_reader.proofs.TypeLemmas.{declared_all, few_declared}
use Rattle.pddl_reader.proofs.resolution.types.tables.Goals as goal

pub returns-clause-few : goal.returns-clause-few
returns-clause-few c =
    few_declared c.args.dialect (name_groups c.args.groups.now) c.declare_groups.new.tables
    (rw (declared_all c.args.dialect (name_groups c.args.groups.now), ← c.in_ok-tables.ensures) c.in_ok-declare_groups.ensures)
