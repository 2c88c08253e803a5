use Rattle.std.proofs.Common.{◌≡◌, ap, sym, ◌∙◌, subst}
use Rattle.strips_task.specs.KnownAtoms.{AreRight, Known, table}
use Rattle.strips_task.proofs.KnownAtoms.{number_found}
use Rattle.strips_task.proofs.known_atoms.KnownAtoms.find.Goals as goal

pub returns-in-Has-clause-right : goal.returns-in-Has-clause-right
returns-in-Has-clause-right c = λ number_of right.
    let known : Known = table c.self.inside.objects_by c.self.inside.head_by c.as_slice.result.now in
    let same : c.args.self.now ≡ known = sym (ap (table c.self.inside.objects_by c.self.inside.head_by) c.as_slice.ensures.value ∙ c.self.view_is) in
    number_found number_of known c.args.key c.in-Has.number c.in-Has.ensures (subst (AreRight number_of) same right)
