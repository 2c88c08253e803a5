use Rattle.std.proofs.Common.{◌≡◌, ◌++◌, ◌∷◌, [], ap, ◌∙◌, sym, slice_get}
use Rattle.std.proofs.lemmas.Option.{slice_get_within}
use Rattle.std.specs.List.{filter_map}
use Rattle.indexmap.specs.IndexSet.{insert_key}
use Rattle.formulas.specs.Atom.{atom_eq}
use Rattle.strips_task.specs.FirstOccurrences.{first_occurrences}
use Rattle.strips_task.proofs.AtomEquality.{atom_equiv}
use Rattle.strips_task.proofs.FirstOccurrences.{first_occurrences-push}
use Rattle.strips_task.proofs.Numbered.{shown-insert, all_within-insert}
use Rattle.strips_task.proofs.initial.InitialAtoms.push.Goals as goal

-- the number goes last, behind those that were there
numbers : (c : goal.After-push_reserved) → c.push_reserved.new.self.items ≡ c.self.inside.numbers.items ++ c.in_ok-number.number ∷ []
numbers c = c.push_reserved.ensures.items ∙ ap (λ l. l ++ c.in_ok-number.number ∷ []) c.reserve.ensures.items

pub invariant_of-self-2 : goal.invariant_of-self-2
invariant_of-self-2 c =
    let within = all_within-insert atom_eq c.self.inside.distinct c.self.inside.numbers.items c.args.atom c.insert.new.self
    c.in_ok-number.number c.self.invariant.0 c.in_ok-number.ensures.ok (slice_get_within c.insert.new.self c.in_ok-number.number c.args.atom c.in_ok-number.ensures.number) in
    let shown = shown-insert atom_eq c.self.inside.distinct c.self.inside.numbers.items c.args.atom c.insert.new.self
    c.in_ok-number.number c.self.invariant.0 c.in_ok-number.ensures.ok c.in_ok-number.ensures.number in
    rw (numbers c) (
      within,
      c.in_ok-number.ensures.ok
          ∙ ap (λ ks. insert_key atom_eq ks c.args.atom) c.self.invariant.1
          ∙ sym (first_occurrences-push atom_equiv (filter_map (slice_get c.self.inside.distinct) c.self.inside.numbers.items) c.args.atom)
          ∙ ap (first_occurrences atom_eq) (sym shown),
    )

pub returns-clause-ok : goal.returns-clause-ok
returns-clause-ok c =
    rw (numbers c)
    (shown-insert atom_eq c.self.inside.distinct c.self.inside.numbers.items c.args.atom c.insert.new.self
    c.in_ok-number.number c.self.invariant.0 c.in_ok-number.ensures.ok c.in_ok-number.ensures.number
    ∙ ap (λ l. l ++ c.args.atom ∷ []) c.self.view_is)
