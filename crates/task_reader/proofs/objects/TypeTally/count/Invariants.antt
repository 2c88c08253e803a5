use Rattle.std.proofs.Common.{◌≡◌, ◌+◌, ◌*◌, ◌≤◌, ℕ, Bool, [], ◌∷◌, drop}
use Rattle.strips_task.specs.Types.{fits}
use Rattle.task_reader.specs.Tallies.{tallied}
use Rattle.task_reader.proofs.objects.TypeTally.count.Given as goal

abbrev pub invariant-types : goal.invariant-types
invariant-types l =
    let test : ℕ → Bool = λ type. fits l.self.task.now.parents (type ∷ []) l.types in
    record {
      rest : l.count + tallied test l.number (drop l.number l.self.exact.items) ≡ tallied test 0 l.self.exact.items;
      bound : l.count ≤ 65535 * l.number;
    }
