use Rattle.strips_task.proofs.known_atoms.KnownAtoms.keep.Goals as goal

pub returns-in_err-find_or_keep-clause-right : goal.returns-in_err-find_or_keep-clause-right
returns-in_err-find_or_keep-clause-right c = λ number_of is right. c.in_err-find_or_keep.ensures.failed number_of right

pub returns-clause-right : goal.returns-clause-right
returns-clause-right c = λ number_of is right. c.in_ok-find_or_keep.ensures.right number_of (λ none. is) right
