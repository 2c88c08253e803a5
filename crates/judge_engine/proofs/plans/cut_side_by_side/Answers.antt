use Rattle.std.proofs.Common.{◌≡◌, ◌<◌, ◌-◌, ◌∙◌, length, ap, arith}
use Rattle.std.specs.List.{range_with_len}
use Rattle.rayon.specs.Numbers.{nat_range}
use Rattle.rayon.proofs.ToStd.{nat_range-All}
use Rattle.judge_engine.specs.Plans.{AreCutsOfFile}
use Rattle.judge_engine.proofs.Fronts.{each_made}
use Rattle.judge_engine.proofs.plans.cut_side_by_side.Goals as goal

pub collect-requires-clause-ready : goal.collect-requires-clause-ready
collect-requires-clause-ready g c κs within =
    let bundles = c.args.bundles.now in
    let ends = c.into_par_iter.ensures in
    let inside = nat_range-All (λ i. (i < length bundles) × (i < 64)) 0 (length bundles) (λ i low high. (high, omega (arith, c.requires.few))) in
    rw (c.map.ensures.base, c.map.ensures.f, c.with_min_len.ensures.base, ends.0, ends.1) (λ k d lt. (inside k d lt, λ y p. tt))

pub joined-requires-clause-count : goal.joined-requires-clause-count
joined-requires-clause-count g c =
    let count = length c.args.bundles.now in
    let ends = c.into_par_iter.ensures in
    let whole : count - 0 ≡ count = omega arith in
    let read = c.in_ok-collect.ensures in
    let chain = rw (c.map.ensures.base, c.map.ensures.f, c.with_min_len.ensures.base) at read.1 in
    let places = chain.1 ∙ (λ i. nat_range (ends.0 i) (ends.1 i)) ∙ ap (range_with_len 0) whole in
    ap length c.as_slice.ensures.value
    ∙ (each_made _ (AreCutsOfFile c.args.bundles.now) (λ v. v.items) chain.0 read.0 count c.in_ok-collect.field-0 c.in_ok-files.files _ chain.2 places read.2 c.in_ok-files.was).0

pub joined-requires-clause-each : goal.joined-requires-clause-each
joined-requires-clause-each g c =
    let count = length c.args.bundles.now in
    let ends = c.into_par_iter.ensures in
    let whole : count - 0 ≡ count = omega arith in
    let read = c.in_ok-collect.ensures in
    let chain = rw (c.map.ensures.base, c.map.ensures.f, c.with_min_len.ensures.base) at read.1 in
    let places = chain.1 ∙ (λ i. nat_range (ends.0 i) (ends.1 i)) ∙ ap (range_with_len 0) whole in
    rw c.as_slice.ensures.value
    (each_made _ (AreCutsOfFile c.args.bundles.now) (λ v. v.items) chain.0 read.0 count c.in_ok-collect.field-0 c.in_ok-files.files _ chain.2 places read.2 c.in_ok-files.was).1
