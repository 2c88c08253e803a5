use Rattle.std.proofs.Common.{All, List, [], ◌∙◌, length, map, subst, sym}
use Rattle.formulas.specs.declared.terms.Pattern.{Pattern}
use Rattle.formulas.specs.Grounding.{with_objects}
use Rattle.formulas.specs.Tree.{Tree}
use Rattle.formulas.specs.Within.{IsPatternWithin, IsWithin}
use Rattle.step_codes.specs.Codes.{Code, AsksFor}
use Rattle.strips_judge.specs.NumberedState.{AreNumbers}
use Rattle.strips_judge.specs.Grounding.{ground}
use Rattle.step_codes.proofs.CodeLaws.{asks_kept, asks_whatever}
use Rattle.strips_judge.proofs.AtomNumbers.{numbers_kept}
use Rattle.strips_judge.proofs.Growth.{grows_twice}
use Rattle.step_codes.proofs.codes.plain_code.Goals as goal

pub ask_all-requires : goal.ask_all-requires
ask_all-requires c = subst (λ (l : List Tree). All (IsWithin (length c.args.arguments.objects.now) 0) l) (sym c.as_slice.ensures) c.requires.pre

pub number_all-requires : goal.number_all-requires
number_all-requires c = subst (λ (l : List Pattern). All (IsPatternWithin (length c.args.arguments.objects.now) 0) l) (sym c.as_slice-deletes.ensures) c.requires.del

pub number_all-requires-2 : goal.number_all-requires-2
number_all-requires-2 c = subst (λ (l : List Pattern). All (IsPatternWithin (length c.args.arguments.objects.now) 0) l) (sym c.as_slice-adds.ensures) c.requires.add

pub returns-then-not-branch-2-clause-state : goal.returns-then-not-branch-2-clause-state
returns-then-not-branch-2-clause-state c = c.number_all.ensures.state ∙ c.ask_all.ensures.state

pub returns-clause-state : goal.returns-clause-state
returns-clause-state c = c.number_all-2.ensures.state ∙ c.number_all.ensures.state ∙ c.ask_all.ensures.state

pub returns-in_err-number_all-clause-grows : goal.returns-in_err-number_all-clause-grows
returns-in_err-number_all-clause-grows c = grows_twice c.args.state.now c.ask_all.new.state c.number_all.new.state c.ask_all.ensures.grows c.number_all.ensures.grows

pub returns-then-not-branch-2-clause-grows : goal.returns-then-not-branch-2-clause-grows
returns-then-not-branch-2-clause-grows c = grows_twice c.args.state.now c.ask_all.new.state c.number_all.new.state c.ask_all.ensures.grows c.number_all.ensures.grows

pub returns-clause-asks : goal.returns-clause-asks
returns-clause-asks c = λ t.
    let parts = c.args.arguments.task.now in
    let last = c.number_all-2.new.state in
    let grown = grows_twice c.ask_all.new.state c.number_all.new.state last c.number_all.ensures.grows c.number_all-2.ensures.grows in
    let asks = asks_kept parts c.ask_all.new.state.atoms last.atoms grown.numbers (map (with_objects c.args.arguments.objects.now []) c.as_slice.result.now) c.ask_all.new.code
    (c.in_ok-ask_all.ensures.asks c.if-not-branch.false) in
    subst (λ (conditions : List Tree). AsksFor parts last.atoms (map (with_objects c.args.arguments.objects.now []) conditions)
    (record { needed = c.code.inside.needed.items; forbidden = c.code.inside.forbidden.items; deleted = c.number_all.new.numbers.items; added = c.number_all-2.new.numbers.items; program = c.code.inside.program.items })) c.as_slice.ensures
    (subst (λ (code : Code). AsksFor parts last.atoms (map (with_objects c.args.arguments.objects.now []) c.as_slice.result.now)
    (record code { deleted = c.number_all.new.numbers.items; added = c.number_all-2.new.numbers.items })) (sym c.code.view_is)
    (asks_whatever parts last.atoms (map (with_objects c.args.arguments.objects.now []) c.as_slice.result.now) c.ask_all.new.code c.number_all.new.numbers.items c.number_all-2.new.numbers.items c.ask_all.new.code.program asks))

pub returns-clause-deleted : goal.returns-clause-deleted
returns-clause-deleted c = λ t.
    let objects = c.args.arguments.objects.now in
    subst (λ (l : List Pattern). AreNumbers c.number_all-2.new.state.atoms (map (ground objects) l) c.number_all.new.numbers.items) c.as_slice-deletes.ensures
    (numbers_kept c.number_all.new.state.atoms c.number_all-2.new.state.atoms c.number_all-2.ensures.grows.numbers (map (ground objects) c.as_slice-deletes.result.now)
    c.number_all.new.numbers.items (c.in_ok-number_all.ensures.numbers c.if-not-branch-2.false))

pub returns-clause-added : goal.returns-clause-added
returns-clause-added c = λ t.
    subst (λ (l : List Pattern). AreNumbers c.number_all-2.new.state.atoms (map (ground c.args.arguments.objects.now) l) c.number_all-2.new.numbers.items) c.as_slice-adds.ensures
    (c.in_ok-found.ensures.numbers t)

pub returns-in_err-found-clause-grows : goal.returns-in_err-found-clause-grows
returns-in_err-found-clause-grows c =
    grows_twice c.args.state.now c.ask_all.new.state c.number_all-2.new.state c.ask_all.ensures.grows
    (grows_twice c.ask_all.new.state c.number_all.new.state c.number_all-2.new.state c.number_all.ensures.grows c.number_all-2.ensures.grows)

pub returns-clause-grows : goal.returns-clause-grows
returns-clause-grows c =
    grows_twice c.args.state.now c.ask_all.new.state c.number_all-2.new.state c.ask_all.ensures.grows
    (grows_twice c.ask_all.new.state c.number_all.new.state c.number_all-2.new.state c.number_all.ensures.grows c.number_all-2.ensures.grows)
