use Rattle.std.proofs.Common.{◌++◌, ◌∷◌, [], ap, sym, ◌∙◌}
use Rattle.indexmap.proofs.CallerLemmas.{insert_entry-new}
use Rattle.formulas.specs.Atom.{atom_eq}
use Rattle.strips_task.specs.Values.{value_of, with_value_over}
use Rattle.strips_task.proofs.values.FunctionValues.give.Goals as goal

pub returns-in-None-clause-ok : goal.returns-in-None-clause-ok
returns-in-None-clause-ok c =
    let none = sym c.in-None.ensures in
    c.in_ok-insert-in-None.ensures.entries
    ∙ insert_entry-new atom_eq c.self.inside.values c.args.function c.args.value (ap (λ es. value_of es c.args.function) c.self.view_is ∙ none)
    ∙ ap (λ es. es ++ (c.args.function, c.args.value) ∷ []) c.self.view_is
    ∙ ap (λ v. with_value_over v c.args.self.now c.args.function c.args.value) (sym none)
