use Rattle.std.proofs.Common.{rules, ◌*◌, ◌≤◌, List, map, sym, ap, ◌∙◌}
use Rattle.std.proofs.lemmas.Result.{IfOk-weaker}
use denote.Param.Weighed.{most}
use Rattle.formulas.specs.Grounding.{with_objects}
use Rattle.formulas.specs.Nodes.{tree_of}
use Rattle.formulas.specs.Tree.{Tree, conjunction, disjunction, exists, for_all, height, negation, parts_of}
use Rattle.formulas.specs.declared.formula.Formula.TheDeep.{size-Formula, deep-Node}
use Rattle.formulas.proofs.Parts.{grounded_parts}
use Rattle.formulas.proofs.Sizes.{list_smaller}
use Rattle.formulas.proofs.grounding.+ground.Goals as goal

pub ground-ground_all-requires : goal.ground-ground_all-requires
ground-ground_all-requires t c = (
  (let fits : most size-Formula c.deref-in-And.result.now ≤ 2 * height c.args.formula.now =
      list_smaller c.node.result.now c.args.formula.now c.in-And.parts.items c.deref-in-And.result.now c.node.ensures (ap deep-Node c.in-And.is) c.deref-in-And.ensures.value in
      search rules),
  tt,
)

pub ground-ground_all-requires-in-Or : goal.ground-ground_all-requires-in-Or
ground-ground_all-requires-in-Or t c = (
  (let fits : most size-Formula c.deref-in-Or.result.now ≤ 2 * height c.args.formula.now =
      list_smaller c.node.result.now c.args.formula.now c.in-Or.parts.items c.deref-in-Or.result.now c.node.ensures (ap deep-Node c.in-Or.is) c.deref-in-Or.ensures.value in
      search rules),
  tt,
)

pub ground-returns-in_ok-ground-in-Not : goal.ground-returns-in_ok-ground-in-Not
ground-returns-in_ok-ground-in-Not t c =
    let put_in = with_objects c.args.objects.now c.args.bound.now in
    let is = sym c.node.ensures ∙ ap tree_of c.in-Not.is in
    IfOk-weaker c.negation.result _ _
    (λ whole made. made ∙ ap negation (c.in_ok-ground-in-Not.ensures ∙ ap put_in c.deref.ensures) ∙ ap put_in (sym is))
    c.negation.ensures

pub ground-returns-in_ok-ground_all-in-And : goal.ground-returns-in_ok-ground_all-in-And
ground-returns-in_ok-ground_all-in-And t c =
    let put_in = with_objects c.args.objects.now c.args.bound.now in
    let is = sym c.node.ensures ∙ ap tree_of c.in-And.is in
    c.new.ensures
    ∙ ap (λ (parts : List Tree). conjunction (parts_of parts)) (c.in_ok-ground_all-in-And.ensures ∙ ap (map put_in) c.deref-in-And.ensures.value)
    ∙ ap conjunction (sym (grounded_parts c.args.objects.now c.args.bound.now c.in-And.parts.items))
    ∙ ap put_in (sym is)

pub ground-returns-in_ok-ground_all-in-Or : goal.ground-returns-in_ok-ground_all-in-Or
ground-returns-in_ok-ground_all-in-Or t c =
    let put_in = with_objects c.args.objects.now c.args.bound.now in
    let is = sym c.node.ensures ∙ ap tree_of c.in-Or.is in
    c.new-in-Or.ensures
    ∙ ap (λ (parts : List Tree). disjunction (parts_of parts)) (c.in_ok-ground_all-in-Or.ensures ∙ ap (map put_in) c.deref-in-Or.ensures.value)
    ∙ ap disjunction (sym (grounded_parts c.args.objects.now c.args.bound.now c.in-Or.parts.items))
    ∙ ap put_in (sym is)

pub ground-returns-in_ok-ground-in-Exists : goal.ground-returns-in_ok-ground-in-Exists
ground-returns-in_ok-ground-in-Exists t c =
    let put_in = with_objects c.args.objects.now c.args.bound.now in
    let is = sym c.node.ensures ∙ ap tree_of c.in-Exists.is in
    let body = c.in_ok-ground-in-Exists.ensures ∙ ap put_in c.deref-in-Exists.ensures in
    IfOk-weaker c.exists.result _ _ (λ whole made. made ∙ (λ j. exists (c.as_slice.ensures j) (body j)) ∙ ap put_in (sym is)) c.exists.ensures

pub ground-returns-in_ok-ground-in-ForAll : goal.ground-returns-in_ok-ground-in-ForAll
ground-returns-in_ok-ground-in-ForAll t c =
    let put_in = with_objects c.args.objects.now c.args.bound.now in
    let is = sym c.node.ensures ∙ ap tree_of c.in-ForAll.is in
    let body = c.in_ok-ground-in-ForAll.ensures ∙ ap put_in c.deref-in-ForAll.ensures in
    IfOk-weaker c.for_all.result _ _ (λ whole made. made ∙ (λ j. for_all (c.as_slice-in-ForAll.ensures j) (body j)) ∙ ap put_in (sym is)) c.for_all.ensures
