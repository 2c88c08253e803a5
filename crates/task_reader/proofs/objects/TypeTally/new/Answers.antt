use Rattle.std.proofs.Common.{◌≡◌, ◌∙◌, sym, ap, arith, Some, refl}
use Rattle.std.specs.Map.{values_of}
use Rattle.task_reader.proofs.Counting.{reaches, reached_index, new_length, new_small, all_tallied}
use Rattle.task_reader.proofs.objects.TypeTally.new.Goals as goal

pub add_one-requires : goal.add_one-requires
add_one-requires c =
    let type = c.from-type_number.result in
    let old = c.objects.exact.items in
    let reached = c.reach.new.exact.items in
    record {
      within = reaches old reached _ type c.in_ok-reach.ensures refl;
      small = omega (arith, reached_index old reached _ type c.in_ok-reach.ensures refl type, c.objects.invariant.small type, c.object_count-object-end.ensures.few);
    }

pub objects-preserved : goal.objects-preserved
objects-preserved c =
    let type = c.from-type_number.result in
    let old = c.objects.exact.items in
    let reached = c.reach.new.exact.items in
    let new = c.add_one.new.exact.items in
    let known = c.object_type.ensures.known in
    let long = new_length old reached new type c.in_ok-reach.ensures c.add_one.ensures in
    let same : type ≡ c.object_type.result = c.from-type_number.ensures in
    record {
      tallied = λ test. all_tallied old reached new type c.in_ok-reach.ensures c.add_one.ensures test (values_of c.args.task.now.objects) c.objects.object
          (c.object_type.ensures.type_number ∙ ap Some (sym same)) (c.objects.invariant.tallied test);
      known = omega (arith, long, known, same, c.objects.invariant.known);
      numbered = omega (arith, long, same, c.objects.invariant.numbered, c.from-type_number.ensures);
      small = new_small old reached new type c.in_ok-reach.ensures c.add_one.ensures c.objects.object c.objects.invariant.small;
    }
