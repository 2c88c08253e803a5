use Rattle.text_judge.proofs.memo.find_entry.Given as goal

abbrev pub invariant-loop : goal.invariant-loop
invariant-loop l = Unit {0}
