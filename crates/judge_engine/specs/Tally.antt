-- What the last line of a planner sums up.

use Rattle.std.specs.Prelude.{ℕ, ◌+◌, List, length, min, Option, None, Some}
use Rattle.judge_engine.specs.declared.planner.Tally.{Tally}
use Rattle.report_text.specs.Report.{Judged, defined_cost, steps_if_valid, valid_costs, valid_steps, least}

-- the lesser of two numbers, either of which may be missing
abbrev pub lesser : Option ℕ → Option ℕ → Option ℕ
lesser None other = other
lesser (Some number) None = Some number
lesser (Some number) (Some other) = Some (min number other)

-- 1 if there are steps
abbrev pub one_if_valid : Option ℕ → ℕ
one_if_valid None = 0
one_if_valid (Some steps) = 1

-- the tally with one more plan, which has this number of steps if it is valid, and this cost if that is defined
abbrev pub tally_over : Tally → Option ℕ → Option ℕ → Tally
tally_over tally steps cost = record {
  plans = tally.plans + 1;
  valid = tally.valid + one_if_valid steps;
  best = lesser tally.best steps;
  cost = lesser tally.cost cost;
}

-- the tally with this plan
abbrev pub tally_with : Tally → Judged → Tally
tally_with tally judged = tally_over tally (steps_if_valid judged.verdict) (defined_cost judged.cost)

-- the tally of these plans
abbrev pub tally_of : List Judged → Tally
tally_of plans = record { plans = length plans; valid = length (valid_steps plans); best = least (valid_steps plans); cost = least (valid_costs plans) }

-- the sum of two tallies
abbrev pub both : Tally → Tally → Tally
both a b = record { plans = a.plans + b.plans; valid = a.valid + b.valid; best = lesser a.best b.best; cost = lesser a.cost b.cost }
