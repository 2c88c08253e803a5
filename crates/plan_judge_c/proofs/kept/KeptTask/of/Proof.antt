-- `of` gives up a box for its pointer, which keeps what the box owned.
use Rattle.std.proofs.Common.{◌≡◌, List, [], ◌∷◌, ◌++◌, refl, ap}
use mir.Syntax.{Dict, Fn, impl, tnil, dnil}
use mir.Val.{Val}
use base.Fraction.{full_share}
use base.Logic.{SProp, emp, id⊢}
use base.Fml.{ftrue, fsep, flft}
use contract.BorrowLft.{◌⊑◌, ⊑_refl}
use contract.Monad.{fact, fact_i}
use contract.Running.{tables}
use prog.Wp.{WpFn}
use types.Kit.{Item, ‵, raw, ◌⊛◌, some, later, prop, ◌$◌, ◌∵◌, !, qed, by, move, keep, drop, use0, use1, split, join, fsplit, fjoin, pick, await, feq_l, regoal}
use types.Run.{of_opd, no_more, and_then, returns, enter}
use types.ByLocal.{alloc_all, pass_all, free_all, look_at, get, sets, lands_as}
use types.Part.{agg}
use denote.Builtin.{RawPtr}
use denote.RattleType.{owns}
use denote.RawPtr.{Ptr}
use denote.Signature.{types_at, plain}
use denote.Steps.{nothing, only}
use denote.Param.{layout}
use denote.Param.NoDrop as no_glue
use mir.Raw.{raw as bare}
use denote.Triple.Call.{calls_at}
use denote.Triple.Entry.{alive}
use denote.Triple.Spec.{triple_of}
use denote.Triple.Walked.{Stays, stay_dropped, walk_of}
use Rattle.core.proofs.alloc.Calls.{Goes-blank}
use Rattle.core.proofs.atomic.Steps.{Ptr-Good, fm}
use Rattle.std.proofs.raw_atomic.Walks.{proved_at, leaves}
use Rattle.std.proofs.impls.GlobalAllocator.TheImpl.Met as heap_met
use Rattle.std.specs.declared.option.Option.TheVariants.{Some}
use Rattle.std.specs.contracts.impls.GlobalAllocator.TheImpl.{ghosts}
use Rattle.std_alloc.proofs.ResultValues.{and_tt}
use Rattle.std_alloc.specs.Box.Ownership.{box_owns}
use Rattle.std_alloc.proofs.BoxSteps.Form as box
use Rattle.std_alloc.proofs.BoxSteps.Steps.{box_out, box_in}
use Rattle.std_alloc.specs.contracts.boxed.Box.into_raw as raw_of
use Rattle.std_alloc.proofs.boxed.Box.into_raw.Met as raw_met
use Rattle.plan_judge_c.proofs.KeptDrops.{drops_as}
use Rattle.plan_judge_c.specs.Kept.{heap as own_heap, kept_owns}
use Rattle.plan_judge_c.proofs.KeptValues.{R, Z, handed, handed_task, handed_heap, al, Held, held, word, box_kept, kept_in}
use Rattle.plan_judge_c.proofs.Destruct++none.drop.Code as no_drop
use Rattle.plan_judge_c.proofs.Destruct++none.drop.Symbol.{symbol as #no_drop}
use Rattle.strips_task.proofs.costs.CostedTask.drop.Met as task_met
use Rattle.strips_task.proofs.costs.CostedTask.drop.Symbol as task_drop
use Rattle.plan_judge_c.specs.contracts.kept.KeptTask.of.{ended, clauses}
use Rattle.plan_judge_c.specs.contracts.kept.KeptTask.of.Key.{name as #self}
use Rattle.plan_judge_c.proofs.kept.KeptTask.of.Statement.{statement}
use Rattle.plan_judge_c.proofs.kept.KeptTask.of.Code as code

-- how a task is dropped
abbrev drops : Dict
drops = impl (task_drop.symbol ∷ []) tnil dnil

pub of_spec : {M : Type 1} → statement M
unfolding no_drop.code
of_spec {M} 𝓤 𝓛 𝓜 𝓡 wired =
    let H = 𝓛.H in let γ = 𝓡.env in let 𝓣 = tables 𝓤 H 𝓜 𝓡 γ in let c = clauses 𝓛 𝓜.mem 𝓡.returns in let fn : Fn = code.function in
    let hs : Stays ended.signature.params ended.kept = (stay_dropped (plain (λ _. Held)) ended.kept.0, tt) in
    -- what `into_raw` does at a task and the heap
    let heap_calls = heap_met.passed γ (code.calls-std_heap::GlobalAllocator::allocate γ wired) (code.calls-std_heap::GlobalAllocator::deallocate γ wired)
    (code.calls-std_heap::GlobalAllocator::grow γ wired) (code.calls-std_heap::GlobalAllocator::shrink γ wired) M 𝓤 𝓛 𝓜 𝓡 in
    let heap_drops = no_glue.glues #no_drop γ (code.calls-plan_judge_c::Destruct++none::drop γ wired) (handed Z) handed_heap M 𝓤 𝓛 𝓜 𝓡 in
    let dropped = code.calls-strips_task::costs::CostedTask::drop γ wired in
    let task_drops = drops_as R 𝓤 𝓛 𝓜 𝓡 γ (bare (layout R)) task_drop.name drops (task_drop.as_method γ dropped _ refl) (task_met.met 𝓤 𝓛 𝓜 𝓡 dropped) in
    let Gives = triple_of 𝓛 (raw_of.signature (handed R) (handed Z) al.g al.d al.drops drops) (raw_of.spec (handed R) (handed Z) al.g al.d al.drops drops 𝓛 𝓜.mem 𝓡.returns) in
    let gives = raw_met.met 𝓤 𝓛 𝓜 𝓡 (code.calls-std_alloc::boxed::Box::into_raw γ wired) (handed R) (handed Z) handed_task handed_heap al.g al.d al.drops drops heap_calls heap_drops task_drops in
    let static : Item 𝓤 = ‵ (flft [] full_share) in
    proved_at 𝓛 ended hs c 𝓜 𝓡 (Goes-blank 𝓛 0 (plain (λ _. Held)) ended.kept.0 (λ κs x f. tt), tt) #self fn (code.unfolded 𝓤 H 𝓜 𝓡 wired) (λ z are.
    let Post : Val → SProp 𝓤 = (walk_of 𝓛 ended hs c).post z in let d = z.0.3.0 in
    qed 𝓛 ((raw (alive 𝓛 ended.signature z.0.0 z.0.1) ⊛ ‵ (owns (types_at ended.signature.params z.0.0) z.0.3 z.0.4)) ∷ ‵ ftrue ∷ []) ∵ split ! $ move ! (1 ∷ []) $ fsplit ! $
    -- the value of the box is one word
    box_out held ! d z.0.4.0 (λ b o h at is fits. box_in held ! d b o d.value at refl $
    let w : Val = box.word held h b o in let typed = box.box_typed held h b o fits in let y : Gives.Ghost = ((([], ([], tt)), (full_share, (full_share, tt)), tt, (d, tt), (w ∷ [], tt)), tt) in
    regoal ! (λ (us : List Val). prop (WpFn 𝓤 H 𝓣.C 𝓣.Λ fn us Post)) (λ i. is i ++ []) refl $
    enter ! 𝓣.C 𝓣.Λ fn (w ∷ []) Post $ alloc_all ! (λ l. pass_all ! refl (typed, tt) $ sets ! (of_opd ! (get ! refl)) refl typed $
    -- the call is handed the box, with tokens that are had for nothing
    nothing ! $ move ! (1 ∷ 0 ∷ []) $ fjoin ! $ nothing ! $ use0 𝓛 static (𝓛.lfts.lft-nil full_share) $ join ! $ use0 𝓛 static (𝓛.lfts.lft-nil full_share) $ join ! $ join ! $
    nothing ! $ use0 𝓛 (raw (fact 𝓤 ([] ⊑ Z.lives))) (fact_i 𝓤 ([] ⊑ Z.lives) (emp 𝓤) (⊑_refl [])) $ join ! $ use0 𝓛 (raw (fact 𝓤 ([] ⊑ R.lives))) (fact_i 𝓤 ([] ⊑ R.lives) (emp 𝓤) (⊑_refl [])) $ join ! $
    move ! (1 ∷ 0 ∷ []) $ join ! $ use1 𝓛 (raw (Gives.pre y)) (id⊢ 𝓤 _) $
    calls_at ! (fm 𝓛 𝓜 𝓡) Gives gives y (and_then ! (get ! refl) (no_more !)) (λ u.
    use1 𝓛 (later (some (λ (p : Ptr). ((static ⊛ static ⊛ ‵ ftrue) ⊛ ‵ (RawPtr.own_val p (u ∷ []))) ⊛ some (λ (_ : (Unit {0} × (Unit {0} × Unit {0})) × Unit {0}).
    ‵ (fsep (fsep ftrue (fsep ftrue ftrue)) ftrue) ⊛ ‵ (box_owns (ghosts.dealloc_token own_heap) R p d.value))))) (id⊢ 𝓤 _) $
    -- the pointer, and what the box owned
    await ! tt $ pick ! (λ p. split ! $ split ! $ drop ! $ feq_l ! (λ is_ptr. pick ! (λ _. split ! $ drop ! $
    lands_as ! (ap only is_ptr) refl (Ptr-Good p) $ sets ! (of_opd ! (get ! refl)) refl (Ptr-Good p) $
    sets ! (agg ! (and_then ! (get ! refl) (no_more !))) refl (and_tt _ (Ptr-Good p).0, ((Ptr-Good p).1, tt)) $
    returns ! (look_at ! 0 refl) $ free_all ! refl $
    use1 𝓛 (‵ (kept_owns R p (Some d.value))) (box_kept 𝓛 p d.value) $ kept_in ! p (Some d.value) $
    -- [the kept task] becomes [no token; nothing of the box; the kept task; what it has]
    use0 𝓛 (raw (fact 𝓤 (Some d.value ≡ Some d.value))) (fact_i 𝓤 (Some d.value ≡ Some d.value) (emp 𝓤) refl) $ nothing ! $ nothing ! $ fjoin ! $ nothing ! $
    keep ! (0 ∷ 1 ∷ 3 ∷ 2 ∷ []) $ by ! (leaves 𝓛 ended hs c z (word p) (record { kept = p; task = Some d.value }) (tt, tt) (tt, tt)))))))))
