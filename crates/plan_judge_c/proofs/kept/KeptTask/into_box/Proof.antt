-- `into_box` tells null from a block, and makes a box of what a kept task owns there.
use Rattle.std.proofs.Common.{◌≡◌, List, [], ◌∷◌, ◌++◌, refl, sym, ap, ◌∙◌, lit<}
use mir.Syntax.{Fn, Body, seq, assign, place, rv_opd, copy, aggregate, int, w8}
use mir.Val.{Val, vptr, vcons, vnil}
use base.Fraction.{full_share}
use base.Logic.{SProp, emp, id⊢}
use base.Fml.{ftrue, fsep, flft}
use contract.BorrowLft.{◌⊑◌, ⊑_refl}
use contract.Monad.{fact, fact_i}
use contract.Running.{tables}
use prog.Wp.{WpFn, Wp, after_seq, at_return}
use types.Kit.{Item, ‵, raw, ◌⊛◌, some, later, prop, at_ret, any_q, ◌$◌, ◌∵◌, !, qed, by, move, keep, drop, use0, use1, split, join, fsplit, fjoin, pick, await, feq_i, regoal}
use types.Run.{stop, fld, lit, of_opd, bin, no_more, and_then, first, blocks, branches, exec, returns, enter}
use types.ByLocal.{alloc_all, pass_all, free_all, look_at, get, get_in, sets, sets_last, lands_last, env}
use types.Part.{agg, sub, whole}
use types.Match.{live}
use denote.Param.{layout}
use denote.Param.NoDrop as no_glue
use denote.RattleType.{RattleType, owns}
use denote.RawPtr.{Ptr, block_ptr, null_ptr, tests_null}
use denote.Signature.{types_at, type_at, plain}
use denote.Steps.{nothing, heard}
use denote.Triple.Call.{calls_at_last}
use denote.Triple.Entry.{alive}
use denote.Triple.Spec.{triple_of}
use denote.Triple.Walked.{Stays, stay_dropped, walk_of}
use Rattle.core.proofs.alloc.Calls.{Goes-blank, handle_tells}
use Rattle.core.proofs.alloc.Shapes.{after}
use Rattle.core.proofs.atomic.Steps.{Ptr-Good, fm}
use Rattle.core.proofs.cell.Inside.{Good}
use Rattle.core.proofs.option.Made.{Some-of, none_of}
use Rattle.std.proofs.raw_atomic.Walks.{proved_at, leaves}
use Rattle.std.proofs.impls.GlobalAllocator.TheImpl.Met as heap_met
use Rattle.std.specs.Prelude.{MatchOption}
use Rattle.std.specs.declared.option.Option.TheVariants.{None, Some}
use Rattle.std_alloc.proofs.ResultValues.{and_tt}
use Rattle.std_alloc.specs.contracts.boxed.Box.from_raw as box_of
use Rattle.std_alloc.proofs.boxed.Box.from_raw.Met as box_met
use Rattle.plan_judge_c.proofs.KeptValues.{R, Z, handed, handed_task, handed_heap, al, Kept, Held, word, kept_out, either_kept, box_tells}
use Rattle.plan_judge_c.proofs.Destruct++none.drop.Code as no_drop
use Rattle.plan_judge_c.proofs.Destruct++none.drop.Symbol.{symbol as #no_drop}
use Rattle.plan_judge_c.specs.contracts.kept.KeptTask.into_box.{ended, clauses}
use Rattle.plan_judge_c.specs.contracts.kept.KeptTask.into_box.Key.{name as #self}
use Rattle.plan_judge_c.proofs.kept.KeptTask.into_box.Statement.{statement}
use Rattle.plan_judge_c.proofs.kept.KeptTask.into_box.Code as code

-- the box goes into an option
abbrev wraps : Body
wraps = seq (assign (place 9 []) (rv_opd (copy (place 10 [])))) (assign (place 7 []) (aggregate (int w8 1 ∷ copy (place 9 []) ∷ [])))

pub into_box_spec : {M : Type 1} → statement M
unfolding no_drop.code
into_box_spec {M} 𝓤 𝓛 𝓜 𝓡 wired =
    let H = 𝓛.H in let γ = 𝓡.env in let 𝓣 = tables 𝓤 H 𝓜 𝓡 γ in let c = clauses 𝓛 𝓜.mem 𝓡.returns in let fn : Fn = code.function in
    let hs : Stays ended.signature.params ended.kept = (stay_dropped (plain (λ _. Kept)) ended.kept.0, (stay_dropped (plain (λ _. Z)) ended.kept.1.0, tt)) in
    -- what `from_raw` does at a task and the heap
    let heap_calls = heap_met.passed γ (code.calls-std_heap::GlobalAllocator::allocate γ wired) (code.calls-std_heap::GlobalAllocator::deallocate γ wired)
    (code.calls-std_heap::GlobalAllocator::grow γ wired) (code.calls-std_heap::GlobalAllocator::shrink γ wired) M 𝓤 𝓛 𝓜 𝓡 in
    let heap_drops = no_glue.glues #no_drop γ (code.calls-plan_judge_c::Destruct++none::drop γ wired) (handed Z) handed_heap M 𝓤 𝓛 𝓜 𝓡 in
    let Makes = triple_of 𝓛 (box_of.signature (handed R) (handed Z) al.g al.d al.drops) (box_of.spec (handed R) (handed Z) al.g al.d al.drops 𝓛 𝓜.mem 𝓡.returns) in
    let makes = box_met.met 𝓤 𝓛 𝓜 𝓡 (code.calls-std_alloc::boxed::Box::from_raw γ wired) (handed R) (handed Z) handed_task handed_heap al.g al.d al.drops heap_calls heap_drops in
    let static : Item 𝓤 = ‵ (flft [] full_share) in
    proved_at 𝓛 ended hs c 𝓜 𝓡 (Goes-blank 𝓛 0 (plain (λ _. Kept)) ended.kept.0 (λ κs x f. tt), (Goes-blank 𝓛 0 (plain (λ _. Z)) ended.kept.1.0 (λ κs x f. tt), tt)) #self fn (code.unfolded 𝓤 H 𝓜 𝓡 wired) (λ z are.
    let Post : Val → SProp 𝓤 = (walk_of 𝓛 ended hs c).post z in let Out : RattleType = type_at ended.signature.result z.0.0 in
    let d = z.0.3.0 in let a = z.0.3.1.0 in let Said : Out.Denot → Type 0 = λ r. MatchOption r (d.task ≡ None) (λ x. d.task ≡ Some x.value) in
    qed 𝓛 ((raw (alive 𝓛 ended.signature z.0.0 z.0.1) ⊛ ‵ (owns (types_at ended.signature.params z.0.0) z.0.3 z.0.4)) ∷ ‵ ftrue ∷ []) ∵ split ! $ move ! (1 ∷ []) $ fsplit ! $ move ! (1 ∷ []) $ fsplit ! $
    -- the two arguments are a word each
    handle_tells al ! a z.0.4.1.0 (λ h hs' fits. move ! (2 ∷ []) $ kept_out ! d z.0.4.0 (λ ws. either_kept ! a d.kept d.task
    -- null: there is no box
    (λ at none. let Ev = env fn.locals in let v : Val = live 0 vnil in
    regoal ! (λ (us : List Val). prop (WpFn 𝓤 H 𝓣.C 𝓣.Λ fn us Post)) (λ i. (ws ∙ ap (λ (p : Ptr). word p ∷ []) at) i ++ (hs' i ++ [])) refl $
    enter ! 𝓣.C 𝓣.Λ fn (word null_ptr ∷ h ∷ []) Post $ alloc_all ! (λ l. pass_all ! refl ((tt, (record { fits = lit< tt }, tt)), (fits, tt)) $
    sets ! (of_opd ! (get_in ! (fld ! refl (stop !)) (sub ! 0 refl (whole !)))) refl (Ptr-Good null_ptr) $ sets ! (of_opd ! (get ! refl)) refl (Ptr-Good null_ptr) $
    sets ! (bin ! (get ! refl) (lit ! tt) tt) refl (tt, tt) $ first ! $ branches ! (get ! refl)
    (λ _. sets_last ! (agg ! (and_then ! (lit ! tt) (no_more !))) refl (tt, (record { fits = lit< tt }, tt)) $ exec ! 𝓣.C 𝓣.Λ (Ev l) (after 4 fn.body) (at_ret (Ev l) Post) $
    sets ! (of_opd ! (get ! refl)) refl (tt, (record { fits = lit< tt }, tt)) $ returns ! (look_at ! 0 refl) $ free_all ! refl $
    use0 𝓛 (‵ (Out.own_val None (v ∷ []))) (none_of 𝓛 Held) $ use0 𝓛 (raw (fact 𝓤 (Said None))) (fact_i 𝓤 (Said None) (emp 𝓤) none) $ nothing ! $ nothing ! $ fjoin ! $ nothing ! $ fjoin ! $
    keep ! (5 ∷ 0 ∷ 2 ∷ 1 ∷ []) $ by ! (leaves 𝓛 ended hs c z v None (tt, (tt, tt)) (tt, (tt, tt)))) (λ wrong. absurd wrong)))
    -- a block: its box
    (λ b o x at kept test. let Ev = env fn.locals in let p : Ptr = block_ptr b o in
    regoal ! (λ (us : List Val). prop (WpFn 𝓤 H 𝓣.C 𝓣.Λ fn us Post)) (λ i. (ws ∙ ap (λ (π : Ptr). word π ∷ []) at) i ++ (hs' i ++ [])) refl $
    enter ! 𝓣.C 𝓣.Λ fn (word p ∷ h ∷ []) Post $ alloc_all ! (λ l. pass_all ! refl ((tt, (tt, tt)), (fits, tt)) $
    sets ! (of_opd ! (get_in ! (fld ! refl (stop !)) (sub ! 0 refl (whole !)))) refl (tt, tt) $ sets ! (of_opd ! (get ! refl)) refl (tt, tt) $
    sets ! (bin ! (get ! refl) (lit ! tt) (tests_null p test)) refl (tt, tt) $ first ! $ branches ! (get ! refl) (λ wrong. absurd wrong) (λ _.
    sets ! (of_opd ! (get ! refl)) refl (tt, tt) $ sets ! (of_opd ! (get ! refl)) refl (tt, tt) $
    first ! $ blocks ! $ sets ! (of_opd ! (get ! refl)) refl fits $ sets ! (of_opd ! (get ! refl)) refl (tt, tt) $
    -- the call is handed what a kept task owns, and the handle of the heap
    use0 𝓛 (raw (fact 𝓤 ([] ⊑ Z.lives))) (fact_i 𝓤 ([] ⊑ Z.lives) (emp 𝓤) (⊑_refl [])) $ join ! $ use0 𝓛 (raw (fact 𝓤 ([] ⊑ R.lives))) (fact_i 𝓤 ([] ⊑ R.lives) (emp 𝓤) (⊑_refl [])) $ join ! $
    nothing ! $ feq_i ! (List Val) (vptr b o ∷ []) (vptr b o ∷ []) refl $ fjoin ! $ move ! (2 ∷ 0 ∷ []) $ fjoin ! $
    nothing ! $ use0 𝓛 static (𝓛.lfts.lft-nil full_share) $ join ! $ use0 𝓛 static (𝓛.lfts.lft-nil full_share) $ join ! $ join ! $ join ! $
    let y : Makes.Ghost = ((([], ([], tt)), (full_share, (full_share, tt)), tt, (a, (p, tt)), (h ∷ [], (vptr b o ∷ [], tt))), x) in use1 𝓛 (raw (Makes.pre y)) (id⊢ 𝓤 _) $
    calls_at_last ! (fm 𝓛 𝓜 𝓡) Makes makes y (and_then ! (get ! refl) (and_then ! (get ! refl) (no_more !))) (λ u.
    use1 𝓛 (later (some (λ (r : Held.Denot). ((static ⊛ static ⊛ ‵ ftrue) ⊛ ‵ (Held.own_val r (u ∷ []))) ⊛ some (λ (_ : Unit {0} × (Unit {0} × Unit {0})).
    ‵ (fsep ftrue (fsep ftrue ftrue)) ⊛ (raw (fact 𝓤 (r.value ≡ x)) ⊛ raw (fact 𝓤 (r.alloc ≡ a))))))) (id⊢ 𝓤 _) $
    -- the box, whose value is the task
    await ! tt $ pick ! (λ r. split ! $ split ! $ drop ! $ move ! (1 ∷ []) $ pick ! (λ _. split ! $ drop ! $ split ! $ heard ! (r.value ≡ x) (λ same. drop ! $
    box_tells ! r u (λ typed. let v : Val = live 1 (vcons u vnil) in let good : Good (layout Out) v = (and_tt _ typed.0, (record { fits = lit< tt }, (typed.1, tt))) in
    lands_last ! refl typed $ exec ! 𝓣.C 𝓣.Λ (Ev l) wraps (any_q (after_seq 𝓤 H (Wp 𝓤 H 𝓣.C 𝓣.Λ (Ev l) (after 4 fn.body) (at_return 𝓤 H (Ev l) Post)) (at_return 𝓤 H (Ev l) Post))) $ sets ! (of_opd ! (get ! refl)) refl typed $
    sets_last ! (agg ! (and_then ! (lit ! tt) (and_then ! (get ! refl) (no_more !)))) refl good $ exec ! 𝓣.C 𝓣.Λ (Ev l) (after 4 fn.body) (at_ret (Ev l) Post) $
    sets ! (of_opd ! (get ! refl)) refl good $ returns ! (look_at ! 0 refl) $ free_all ! refl $
    -- [the box] becomes [no token; nothing of the arguments; the box; what it is]
    use1 𝓛 (‵ (Out.own_val (Some r) (v ∷ []))) (Some-of 𝓛 Held r u) $ use0 𝓛 (raw (fact 𝓤 (Said (Some r)))) (fact_i 𝓤 (Said (Some r)) (emp 𝓤) (kept ∙ ap Some (sym same))) $
    nothing ! $ nothing ! $ fjoin ! $ nothing ! $ fjoin ! $ nothing ! $ keep ! (0 ∷ 1 ∷ 3 ∷ 2 ∷ []) $ by ! (leaves 𝓛 ended hs c z v (Some r) (tt, (tt, tt)) (tt, (tt, tt))))))))))))))
