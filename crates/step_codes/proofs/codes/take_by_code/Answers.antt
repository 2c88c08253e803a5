use Rattle.std.proofs.Common.{◌≡◌, ◌<◌, ℕ, List, All, IsTrue, true, false, [], subst, sym, length, arith, tests}
use Rattle.bit_rows.specs.Rows.{row_has}
use Rattle.formulas.specs.declared.atoms.Atom.{Atom}
use Rattle.step_codes.specs.Codes.{code_shown, numbers_by}
use Rattle.strips_judge.specs.NumberedState.{AreNumbers, state_of}
use Rattle.strips_judge.specs.Step.{deletes, adds}
use Rattle.step_codes.proofs.CodeLaws.{bits_of_state, code_hinders_not, code_leads, nothing_in, without_program}
use Rattle.step_codes.proofs.codes.take_by_code.Goals as goal

pub set_all-requires : goal.set_all-requires
set_all-requires c =
    let none : c.args.code.program.now ≡ [] = nothing_in c.args.code.program.now c.is_empty.result c.is_empty.ensures c.if-not-is_empty.false in
    let bits = row_has c.args.state.now.bits in
    subst (λ (l : List ℕ). All (λ n. n < length c.clear_all.new.state.atoms) l) (without_program (code_shown c.args.code) none bits true)
    (subst (λ (atoms : List Atom). All (λ n. n < length atoms) (numbers_by bits true (code_shown c.args.code))) (sym c.clear_all.ensures.atoms) (c.requires bits))

pub returns-clause-taken : goal.returns-clause-taken
returns-clause-taken c = λ t parts step stays is.
    let needs : IsTrue c.all_are.result = grind (arith, tests, c.if-not-all_are.false) in
    let forbids : IsTrue c.all_are-2.result = grind (arith, tests, c.if-not-all_are-2.false) in
    let none : c.args.code.program.now ≡ [] = nothing_in c.args.code.program.now c.is_empty.result c.is_empty.ensures c.if-not-is_empty.false in
    let atoms = c.args.state.now.atoms in
    let state = state_of c.args.state.now in
    let code = code_shown c.args.code in
    let bits = row_has c.args.state.now.bits in
    let deleted : AreNumbers atoms (deletes parts state step) code.deleted =
    subst (AreNumbers atoms (deletes parts state step)) (without_program code none bits false) (is.deleted state bits stays (bits_of_state c.args.state.now)) in
    let added : AreNumbers atoms (adds parts state step) code.added =
    subst (AreNumbers atoms (adds parts state step)) (without_program code none bits true) (is.added state bits stays (bits_of_state c.args.state.now)) in (
      code_hinders_not parts atoms state step code stays is (c.all_are.ensures needs) (c.all_are-2.ensures forbids),
      code_leads parts atoms state step code stays is (state_of c.clear_all.new.state) (state_of c.set_all.new.state)
          (c.clear_all.ensures.state (deletes parts state step) deleted)
          (c.set_all.ensures.state (adds parts state step)
          (subst (λ (atoms : List Atom). AreNumbers atoms (adds parts state step) code.added) (sym c.clear_all.ensures.atoms) added)),
    )
