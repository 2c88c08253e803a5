use Rattle.std.proofs.Common.{◌≡◌, ◌&&◌, ℕ, true, nat_eq, List, [], Some, map, length, sym, ap, subst, ◌∙◌, arith, take, drop, ◌-◌, get_or}
use Rattle.std.proofs.lemmas.Slice.{first_rest}
use Rattle.std.proofs.lemmas.Bool.Decides.{nat_tests}
use Rattle.std.specs.List.{list_all, slice_get, zip}
use Rattle.std.specs.Map.{values_of}
use Rattle.std.specs.Option.{option_copied}
use Rattle.pddl_words.specs.SpacedWords.{words_of}
use Rattle.formulas.specs.declared.terms.Term.TheVariants.{Object}
use Rattle.strips_task.specs.WellFormed.{is_fitting, term_types}
use Rattle.strips_task.proofs.AtomEquality.{both_hold}
use Rattle.pddl_reader.specs.Resolved.{known_form}
use Rattle.pddl_reader.specs.Rows.{row_numbers}
use Rattle.pddl_reader.proofs.RowLemmas.{row_ground}
use Rattle.pddl_reader.proofs.resolution.rows.fitting.Goals as goal

pub returns : goal.returns
returns c = λ row is.
    let known = known_form c.args.known.now in
    let numbers = c.args.numbers.now in
    let pred : ℕ = get_or numbers 0 0 in
    let objects = take (length numbers - 1) (drop 1 numbers) in
    let types : List (List ℕ) = c.as_slice.result.now in
    let parted = subst (λ ns. row_numbers known (words_of row) ≡ map Some ns) (first_rest numbers 0 (omega (arith, c.in-len1-up.len_at_least))) is in
    let fit : (nat_eq (length objects) (length types)
    && list_all (λ p. is_fitting known.parents (term_types known.objects [] [] (Object p.0)) p.1) (zip objects types)) ≡ true =
    sym c.all_fit.ensures ∙ c.if-not-all_fit.false in
    let both = both_hold (nat_eq (length objects) (length types))
    (list_all (λ p. is_fitting known.parents (term_types known.objects [] [] (Object p.0)) p.1) (zip objects types)) fit in
    let count : length objects ≡ length types = grind (arith, nat_tests, both.0) in
    let at : slice_get (values_of known.predicates) pred ≡ Some types =
    ap (slice_get (values_of known.predicates)) (sym c.from.ensures) ∙ sym c.value.ensures ∙ ap option_copied c.in-Some.is ∙ ap Some (sym c.as_slice.ensures) in
    row_ground known row pred objects types parted at count both.1
