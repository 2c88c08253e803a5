use Rattle.std.proofs.Common.{◌≡◌, ◌∙◌, sym, true, false, Some}
use Rattle.std.specs.Str.{bytes_eq}
use Rattle.pddl_words.specs.Words.{folded}
use Rattle.strips_task.specs.Names.{number_named}
use Rattle.pddl_reader.specs.TypeOrder.{counts_as_parent}
use Rattle.pddl_reader.proofs.TypeLemmas.{under_again, under_otherwise}
use Rattle.pddl_reader.proofs.resolution.types.declare_under.Goals as goal

pub returns-then-is_same_name : goal.returns-then-is_same_name
returns-then-is_same_name c =
    let parents = c.args.parents.now in
    let named : number_named parents (folded c.args.word.text.now) ≡ Some c.in-Some.number =
    rw (← c.in_ok-own.ensures, ← c.as_bytes.ensures.bytes) (sym c.in-Some.ensures.number) in
    let same : bytes_eq c.get.result.1.now (folded c.args.kind.text.now) ≡ true =
    rw (← c.in_ok-parent.ensures) (sym c.is_same_name.ensures ∙ c.if-is_same_name.true) in
    let counts : counts_as_parent c.args.dialect (folded c.args.kind.text.now) ≡ true =
    rw (← c.in_ok-parent.ensures) (sym c.counts_as_parent.ensures ∙ c.if-not-counts_as_parent.false) in
    under_again c.args.dialect parents (folded c.args.word.text.now) (folded c.args.kind.text.now) _ _ c.in-Some.number counts named c.get.ensures same

pub returns-in-Some : goal.returns-in-Some
returns-in-Some c =
    let parents = c.args.parents.now in
    let named : number_named parents (folded c.args.word.text.now) ≡ Some c.in-Some.number =
    rw (← c.in_ok-own.ensures, ← c.as_bytes.ensures.bytes) (sym c.in-Some.ensures.number) in
    let other : bytes_eq c.get.result.1.now (folded c.args.kind.text.now) ≡ false =
    rw (← c.in_ok-parent.ensures) (sym c.is_same_name.ensures ∙ c.if-is_same_name.false) in
    let counts : counts_as_parent c.args.dialect (folded c.args.kind.text.now) ≡ true =
    rw (← c.in_ok-parent.ensures) (sym c.counts_as_parent.ensures ∙ c.if-not-counts_as_parent.false) in (
      λ k. absurd (c.parent_fault.ensures k),
      λ _. under_otherwise c.args.dialect parents (folded c.args.word.text.now) (folded c.args.kind.text.now) _ _ c.in-Some.number counts named c.get.ensures other,
    )
