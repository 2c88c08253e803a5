use Rattle.std.proofs.Common.{rules, ◌≡◌, ◌∙◌, IsTrue, is_some, sym, arith, tests}
use Rattle.std.specs.List.{position_from}
use Rattle.formulas.specs.Atom.{atom_eq}
use Rattle.strips_task.specs.FirstOccurrences.{first_occurrences}
use Rattle.formulas.specs.Meaning.{atom_of}
use Rattle.strips_judge.proofs.NumberedLaws.{initial_has}
use Rattle.strips_judge.proofs.task_index.TaskIndex.lasting_truth.Goals as goal

pub returns : goal.returns
returns c = λ state keeps.
    let atom = atom_of c.args.objects.now c.args.bound.now c.args.pattern.now in
    let static : IsTrue c.is_static.result = grind (arith, tests, c.if-not-is_static.false) in
    let has : is_some (position_from (atom_eq atom) 0 (first_occurrences atom_eq c.args.self.now.init)) ≡ c.is_some.result = search rules in
    keeps atom (c.is_static.ensures static) ∙ sym (initial_has atom c.args.self.now.init) ∙ has
