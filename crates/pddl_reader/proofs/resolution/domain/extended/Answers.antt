use Rattle.std.proofs.lemmas.Result.{err_from_is_err_and}
use Rattle.pddl_syntax.specs.Forms.{name_groups}
use Rattle.pddl_reader.proofs.ExtendedDomains.{extended_domain, extended_meant, not_extended_meant}
use Rattle.pddl_reader.proofs.resolution.domain.extended.Goals as goal

pub returns-in_err-objects : goal.returns-in_err-objects
returns-in_err-objects c =
    let p = err_from_is_err_and c.from_residual.result c.from_residual.ensures.1 in
    let e = c.in_err-objects.ensures in
    let split = c.split-head.result in
    rw (p.1, p.2) (
      e.0,
      λ k. not_extended_meant split.0 split.1 c.args.domain (name_groups c.args.groups.now) c.split-head.ensures.value (e.1 k),
    )

pub assemble-requires : goal.assemble-requires
assemble-requires c =
    let split = c.split-head.result in
    extended_domain split.0 split.1 c.in_ok-objects.objects c.args.domain (name_groups c.args.groups.now) c.split-head.ensures.value c.split-head.ensures.kept
    c.in_ok-objects.ensures

pub returns : goal.returns
returns c =
    let split = c.split-head.result in
    rw c.assemble.ensures
    (extended_meant split.0 split.1 c.in_ok-objects.objects c.args.domain (name_groups c.args.groups.now) c.split-head.ensures.value c.in_ok-objects.ensures)
