use Rattle.std.proofs.Common.{sym, subst, ◌∙◌, arith}
use Rattle.pddl_words.specs.declared.short_words.ShortWord.{ShortWord}
use Rattle.pddl_words.specs.ShortWords.{IsWord}
use Rattle.strips_task.specs.declared.short_names.Numbered.{Numbered}
use Rattle.strips_task.proofs.short_names.number_at.Goals as goal

pub returns-then-is : goal.returns-then-is
returns-then-is c = λ number_of all word is.
    let empty : Numbered = record { front = 0; back = 0; len = 0; number = 0 } in
    let same = sym c.name.ensures ∙ c.is.ensures.0 c.if-is.true in
    all c.args.index empty (omega (arith, c.if-index-names.false)) word (subst (λ (short : ShortWord). IsWord short word) (sym same) is)
