use Rattle.bench_rule.proofs.steps.close.Given as goal

abbrev pub ghosts-close_as : goal.ghosts-close_as
ghosts-close_as a = record { planner = a._planner }
