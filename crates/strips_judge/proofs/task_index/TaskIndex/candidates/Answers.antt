use Rattle.std.proofs.Common.{rules, ◌≡◌, ◌<◌, ◌∙◌, ℕ, List, Some, All, ap, filter, length, slice_get, refl, subst, sym, arith, tests}
use Rattle.std.proofs.lemmas.List.Elements.{All-filter}
use Rattle.std.proofs.lemmas.Option.{slice_get_read}
use Rattle.std.specs.List.{range_with_len}
use Rattle.strips_task.specs.declared.tasks.TaskParts.{TaskParts}
use Rattle.strips_judge.specs.Fitting.{object_fits}
use Rattle.strips_judge.specs.Listing.{AreLists}
use Rattle.strips_judge.specs.State.{objects_of}
use Rattle.strips_judge.proofs.Listings.{filter_again, list_of_only, range_below}
use Rattle.strips_judge.proofs.task_index.TaskIndex.candidates.Goals as goal

pub returns-in-Some-clause-all : goal.returns-in-Some-clause-all
returns-in-Some-clause-all c =
    let types = c.args.types.now in
    let lists = c.self.inside.lists.items in
    let lt : c.from.result < length c.deref.result.now = grind (arith, tests, c.in-Some.ensures.lookup.0) in
    let found : slice_get lists c.from.result ≡ Some c.in-Some.list.now =
    ap (λ (l : List (List ℕ)). slice_get l c.from.result) (sym c.deref.ensures.value) ∙ slice_get_read c.deref.result.now (length c.deref.result.now) c.from.result c.in-Some.list.now refl lt c.in-Some.ensures.lookup.1 in
    let list : c.as_slice.result.now ≡ objects_of c.args.self.now types = c.as_slice.ensures
    ∙ list_of_only c.args.self.now lists types c.from.result c.in-Some.list.now (subst (λ (parts : TaskParts). AreLists parts lists) c.self.view_is c.self.invariant.1) c.in-len1.len_at_least c.in-len1.len_below c.from.ensures found in
    let fits = object_fits c.args.self.now types in
    ap (filter fits) list ∙ filter_again fits (range_with_len 0 (length c.args.self.now.objects))

pub returns-in-Some-clause-known : goal.returns-in-Some-clause-known
returns-in-Some-clause-known c =
    let types = c.args.types.now in
    let lists = c.self.inside.lists.items in
    let lt : c.from.result < length c.deref.result.now = grind (arith, tests, c.in-Some.ensures.lookup.0) in
    let found : slice_get lists c.from.result ≡ Some c.in-Some.list.now =
    ap (λ (l : List (List ℕ)). slice_get l c.from.result) (sym c.deref.ensures.value) ∙ slice_get_read c.deref.result.now (length c.deref.result.now) c.from.result c.in-Some.list.now refl lt c.in-Some.ensures.lookup.1 in
    let list : c.as_slice.result.now ≡ objects_of c.args.self.now types = c.as_slice.ensures
    ∙ list_of_only c.args.self.now lists types c.from.result c.in-Some.list.now (subst (λ (parts : TaskParts). AreLists parts lists) c.self.view_is c.self.invariant.1) c.in-len1.len_at_least c.in-len1.len_below c.from.ensures found in
    let count = length c.args.self.now.objects in
    subst (λ (l : List ℕ). All (λ object. object < count) l) (sym list)
    (All-filter (object_fits c.args.self.now types) (λ object. object < count) (range_with_len 0 count) (range_below count))

pub returns-clause-known : goal.returns-clause-known
returns-clause-known c =
    let count : c.object_count.result ≡ length c.args.self.now.objects = search rules in
    subst (λ (n : ℕ). All (λ object. object < length c.args.self.now.objects) (range_with_len 0 n)) (sym count) (range_below (length c.args.self.now.objects))
