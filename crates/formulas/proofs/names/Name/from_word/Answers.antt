use Rattle.std.proofs.Common.{◌≡◌, length, ap, ◌∙◌, sym}
use Rattle.std.specs.Char.{to_ascii_lowercase}
use Rattle.std.specs.List.{refill}
use Rattle.std.proofs.lemmas.List.{length-map}
use Rattle.pddl_words.specs.Words.{folded, is_name}
use Rattle.formulas.proofs.FoldedWords.{folded_twice, folded_is_name, refilled}
use Rattle.formulas.proofs.names.Name.from_word.Goals as goal

pub invariant_of-result : goal.invariant_of-result
invariant_of-result c =
    let items = c.in_ok-bytes.bytes.items in
    let new = c.make_ascii_lowercase.new.self in
    let lower : new ≡ folded items = c.make_ascii_lowercase.ensures.after ∙ ap folded c.as_mut_slice.ensures.value in
    let same : length new ≡ length items = ap length lower ∙ length-map items to_ascii_lowercase in
    let is : refill (length items) items new ≡ folded c.args.word.now = refilled items new same ∙ lower ∙ ap folded c.in_ok-bytes.ensures.ok in
    record {
      in_lower_case = ap folded is ∙ folded_twice c.args.word.now ∙ sym is;
      named = ap is_name is ∙ folded_is_name c.args.word.now c.requires;
    }
