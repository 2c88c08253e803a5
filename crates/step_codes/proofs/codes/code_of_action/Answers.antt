use Rattle.std.proofs.Common.{true, false, [], map, subst, sym}
use Rattle.std.proofs.lemmas.List.Elements.{All-append}
use Rattle.formulas.specs.Grounding.{with_objects}
use Rattle.step_codes.specs.Codes.{Code, AsksFor}
use Rattle.strips_judge.specs.NumberedState.{AreNumbers}
use Rattle.strips_judge.specs.Grounding.{ground}
use Rattle.step_codes.specs.Programs.{IsNumber, numbers_changed}
use Rattle.strips_judge.specs.Step.{changed_by}
use Rattle.step_codes.proofs.CodeLaws.{are_numbers, asks_kept, asks_whatever}
use Rattle.strips_judge.proofs.AtomNumbers.{numbers_kept}
use Rattle.step_codes.proofs.CompiledEffects.{found_all, found_within, numbers_both}
use Rattle.strips_judge.proofs.Growth.{grows_twice}
use Rattle.strips_judge.proofs.VerdictLaws.{success_as}
use Rattle.step_codes.proofs.codes.code_of_action.Goals as goal

pub returns-clause-asks : goal.returns-clause-asks
returns-clause-asks c =
    success_as _ _ c.compile_all.result
    (λ found h t.
    let parts = c.args.arguments.task.now in
    let conditions = map (with_objects c.args.arguments.objects.now []) c.args.action.now.pre in
    let asks = asks_kept parts c.plain_code.new.state.atoms c.compile_all.new.state.atoms c.compile_all.ensures.grows.numbers conditions c.plain_code.new.code (c.in_ok-plain_code.ensures.asks c.if-not-branch.false) in
    subst (λ (code : Code). AsksFor parts c.compile_all.new.state.atoms conditions (record code { program = c.compile_all.new.program.items })) (sym c.code.view_is)
    (asks_whatever parts c.compile_all.new.state.atoms conditions c.plain_code.new.code c.plain_code.new.code.deleted c.plain_code.new.code.added c.compile_all.new.program.items asks))
    c.compile_all.ensures.compiled

pub returns-clause-deleted : goal.returns-clause-deleted
returns-clause-deleted c =
    success_as _ _ c.compile_all.result
    (λ found h t before bits stays are.
    let task = c.args.arguments.task.now in
    let objects = c.args.arguments.objects.now in
    let atoms = c.compile_all.new.state.atoms in
    let deletes = map (ground objects) c.args.action.now.del in
    numbers_both atoms deletes (changed_by task objects before false c.args.action.now.effects) c.code.inside.deleted.items (numbers_changed bits false 0 c.compile_all.new.program.items)
    (numbers_kept c.plain_code.new.state.atoms atoms c.compile_all.ensures.grows.numbers deletes c.code.inside.deleted.items
    (subst (λ (code : Code). AreNumbers c.plain_code.new.state.atoms deletes code.deleted) (sym c.code.view_is) (c.in_ok-plain_code.ensures.deleted c.if-not-branch.false)))
    (found_all task objects c.clear.new.self.items c.args.action.now.effects c.as_slice-effects.result.now atoms c.clear-2.new.self.items c.compile_all.new.program.items c.clear.ensures.items c.as_slice-effects.ensures
    c.clear-2.ensures.items (h t) before bits stays are false))
    c.compile_all.ensures.compiled

pub returns-clause-added : goal.returns-clause-added
returns-clause-added c =
    success_as _ _ c.compile_all.result
    (λ found h t before bits stays are.
    let task = c.args.arguments.task.now in
    let objects = c.args.arguments.objects.now in
    let atoms = c.compile_all.new.state.atoms in
    let adds = map (ground objects) c.args.action.now.add in
    numbers_both atoms adds (changed_by task objects before true c.args.action.now.effects) c.code.inside.added.items (numbers_changed bits true 0 c.compile_all.new.program.items)
    (numbers_kept c.plain_code.new.state.atoms atoms c.compile_all.ensures.grows.numbers adds c.code.inside.added.items
    (subst (λ (code : Code). AreNumbers c.plain_code.new.state.atoms adds code.added) (sym c.code.view_is) (c.in_ok-plain_code.ensures.added c.if-not-branch.false)))
    (found_all task objects c.clear.new.self.items c.args.action.now.effects c.as_slice-effects.result.now atoms c.clear-2.new.self.items c.compile_all.new.program.items c.clear.ensures.items c.as_slice-effects.ensures
    c.clear-2.ensures.items (h t) before bits stays are true))
    c.compile_all.ensures.compiled

pub returns-clause-within : goal.returns-clause-within
returns-clause-within c =
    success_as _ _ c.compile_all.result
    (λ found h t bits.
    let atoms = c.compile_all.new.state.atoms in
    let adds = map (ground c.args.arguments.objects.now) c.args.action.now.add in
    All-append (IsNumber atoms) c.code.inside.added.items (numbers_changed bits true 0 c.compile_all.new.program.items)
    (are_numbers atoms adds c.code.inside.added.items
    (numbers_kept c.plain_code.new.state.atoms atoms c.compile_all.ensures.grows.numbers adds c.code.inside.added.items
    (subst (λ (code : Code). AreNumbers c.plain_code.new.state.atoms adds code.added) (sym c.code.view_is) (c.in_ok-plain_code.ensures.added c.if-not-branch.false))))
    (found_within c.args.arguments.task.now atoms c.clear-2.new.self.items c.compile_all.new.program.items _ c.clear-2.ensures.items (h t) bits true))
    c.compile_all.ensures.compiled

pub returns-clause-grows : goal.returns-clause-grows
returns-clause-grows c = grows_twice c.args.state.now c.plain_code.new.state c.compile_all.new.state c.plain_code.ensures.grows c.compile_all.ensures.grows
