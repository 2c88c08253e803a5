-- A kept task as the machine has it, and the box that it is kept from. Assumes `Logic`.
use Rattle.std.proofs.Common.{◌≡◌, ℕ, List, [], ◌∷◌, ◌++◌, refl, sym, ap, subst}
use lib.Dec.{T}
use seplogic.Ra.Ura.{Ura}
use mir.Syntax.{impl, tcons, tnil, dnil}
use mir.Raw.{raw as bare}
use mir.Val.{Val, vstruct, vcons, vnil, of_list, has_ty, WT}
use base.Logic.{SProp, ent, id⊢, via, snd∗, guard, guard_i, never, never_e, fst∗}
use types.Logic.{Logic, sem}
use types.Kit.{Item, Goal, Seq, Step, step, ‵, given, ◌$◌, drop, use1, learn, fsplit, fjoin, fpick, fpack, feq_i, feq_l, rewrite}
use contract.Monad.{fact_use}
use denote.RattleType.{RattleType, Valss}
use denote.Builtin.{RawPtr}
use denote.Memory.{lone}
use denote.RawPtr.{Ptr, block_ptr, null_ptr, ptr_val, lies_at, Testable}
use denote.Steps.{nothing, only}
use denote.Exit.{no}
use denote.Param.{layout, arg}
use denote.Param.Laws.{Laws, arg_laws}
use denote.Struct.Struct.{within}
use denote.Struct.Owning.{shape}
use base.Fraction.{full_share}
use Rattle.core.proofs.alloc.Calls.{Al}
use Rattle.std.specs.declared.option.Option.{Option}
use Rattle.std.specs.declared.option.Option.TheVariants.{None, Some}
use Rattle.std.specs.declared.alloc.Global.{Global}
use Rattle.std.specs.contracts.alloc.Global as heap
use Rattle.std.proofs.alloc.Global.TheLaws as heap_laws
use Rattle.std.specs.contracts.impls.GlobalAllocator.TheImpl.{ghosts, dict}
use Rattle.std.proofs.GlobalToken.{dealloc_token-Testable}
use Rattle.std_alloc.specs.Box.Ownership.{box_owns}
use Rattle.std_alloc.proofs.BoxSteps.Form.{Bx, box_typed}
use Rattle.std_alloc.proofs.BoxSteps.Steps.{box_out, box_in}
use Rattle.std_alloc.specs.contracts.boxed.Box as boxed
use Rattle.plan_judge_c.specs.Kept.{heap as own_heap, kept_owns}
use Rattle.strips_task.specs.contracts.costs.CostedTask as task
use Rattle.plan_judge_c.specs.contracts.kept.KeptTask as kept
use Rattle.strips_task.proofs.costs.CostedTask.TheLaws as task_laws
use Rattle.plan_judge_c.proofs.Destruct++none.drop.Symbol as no_drop

abbrev pub R : RattleType
R = task.the_row

abbrev pub Z : RattleType
Z = heap.the_row

abbrev pub Kept : RattleType
Kept = kept.the_row

-- a kept task at the pointer p
abbrev pub word : Ptr → Val
word p = vstruct (vcons (ptr_val p) vnil)

-- a type as a call passes it, without the names of its structs
abbrev pub handed : RattleType → RattleType
handed X = arg (bare (layout X)) no X

-- the heap as an allocator: it has nothing to drop
abbrev pub al : Al
al = record { row = Z; laws = heap_laws.the_row_laws; g = ghosts; d = dict; drops = impl (no_drop.symbol ∷ []) (tcons (layout (handed Z)) tnil) dnil }

-- the box of a task in it, as a type and as what lemmas on boxes speak of
abbrev pub Held : RattleType
Held = boxed.the_row R Z ghosts

abbrev pub held : Bx
held = record { row = R; laws = task_laws.the_row_laws; al = al }

-- a call may be handed both
pub handed_task : Laws (handed R)
handed_task = arg_laws (bare (layout R)) no R held.laws refl

pub handed_heap : Laws (handed Z)
handed_heap = arg_laws (bare (layout Z)) no Z al.laws refl

module _ {M : Type 1} {𝓤 : Ura M} (𝓛 : Logic 𝓤) where
  tested : (a : Global) (p : Ptr) (x : R.Denot) → ent 𝓤 (sem 𝓛 (box_owns (ghosts.dealloc_token own_heap) R p x)) (guard 𝓤 (Testable p) (sem 𝓛 (box_owns (ghosts.dealloc_token own_heap) R p x)))
  tested a p x = let B : SProp 𝓤 = sem 𝓛 (box_owns (ghosts.dealloc_token own_heap) R p x) in
      fact_use 𝓤 (Testable p) (via 𝓤 _ (snd∗ 𝓤 (sem 𝓛 (lies_at R full_share p x)) (sem 𝓛 (ghosts.dealloc_token own_heap (bare (lone R.mir)) p))) (dealloc_token-Testable 𝓛 a (bare (lone R.mir)) p)) (guard_i 𝓤 (Testable p) B)

  -- what a box owns is what a kept task does
  pub box_kept : (p : Ptr) (x : R.Denot) → ent 𝓤 (sem 𝓛 (box_owns (ghosts.dealloc_token own_heap) R p x)) (sem 𝓛 (kept_owns R p (Some x)))
  box_kept null_ptr x = fst∗ 𝓤 (never 𝓤) (sem 𝓛 (ghosts.dealloc_token own_heap (bare (lone R.mir)) null_ptr))
  box_kept (block_ptr b o) x = id⊢ 𝓤 _

module _ {M : Type 1} {𝓤 : Ura M} {𝓛 : Logic 𝓤} {K : Type 0} {Γ : List (Item 𝓤)} {G : Goal 𝓤 𝓛.H} where
  pub kept_out : K → (d : Kept.Denot) (vs : List Val) → (vs ≡ word d.kept ∷ [] → Seq K 𝓛 (‵ (kept_owns R d.kept d.task) ∷ Γ) G) → Seq K 𝓛 (‵ (Kept.own_val d vs) ∷ Γ) G
  kept_out t d vs k =
      fsplit t $ fpick t (λ vss. fsplit t $ feq_l t (λ ev. fsplit t $ feq_l t (λ ep. drop t $ k
      (subst (λ (ps : List Val). vs ≡ vstruct (of_list (ps ++ [])) ∷ []) ep ev))))

  pub kept_in : K → (p : Ptr) (x : Option R.Denot) → Step K 𝓛 (‵ (Kept.own_val (record { kept = p; task = x }) (word p ∷ [])) ∷ Γ) G (‵ (kept_owns R p x) ∷ Γ) G
  kept_in t p x = step (λ s.
      nothing t $ feq_i t (List Val) (ptr_val p ∷ []) (ptr_val p ∷ []) refl $ fjoin t $ feq_i t (List Val) (word p ∷ []) (word p ∷ []) refl $ fjoin t $
      fpack t (Valss (RawPtr ∷ [])) (within (shape kept.the_type) (p, tt) (word p ∷ [])) (ptr_val p ∷ [], tt) $ fjoin t $ s)

  pub either_kept : K → (a : Global) (p : Ptr) (x : Option R.Denot) → (p ≡ null_ptr → x ≡ None → Seq K 𝓛 Γ G)
      → ((b o : ℕ) (y : R.Denot) → p ≡ block_ptr b o → x ≡ Some y → Testable (block_ptr b o) → Seq K 𝓛 (‵ (box_owns (ghosts.dealloc_token own_heap) R (block_ptr b o) y) ∷ Γ) G) → Seq K 𝓛 (‵ (kept_owns R p x) ∷ Γ) G
  either_kept t a null_ptr None none some = drop t $ none refl refl
  either_kept t a null_ptr (Some y) none some = use1 𝓛 (given ⊥ (‵ base.Fml.ftrue)) (never_e 𝓤 _) $ learn t (λ z. absurd z)
  either_kept t a (block_ptr b o) None none some = use1 𝓛 (given ⊥ (‵ base.Fml.ftrue)) (never_e 𝓤 _) $ learn t (λ z. absurd z)
  either_kept t a (block_ptr b o) (Some y) none some =
      use1 𝓛 (given (Testable (block_ptr b o)) (‵ (box_owns (ghosts.dealloc_token own_heap) R (block_ptr b o) y))) (tested 𝓛 a (block_ptr b o) y) $ learn t (λ u. some b o y refl refl u)

  -- a box is one word, of its type
  pub box_tells : K → (d : Held.Denot) (u : Val) → (T (has_ty (layout Held) u) × WT u → Seq K 𝓛 (‵ (Held.own_val d (u ∷ [])) ∷ Γ) G) → Seq K 𝓛 (‵ (Held.own_val d (u ∷ [])) ∷ Γ) G
  box_tells t d u k = box_out held t d (u ∷ []) (λ b o h at is fits. box_in held t d b o d.value at refl $
      rewrite t 0 (λ (us : List Val). ‵ (Held.own_val d us)) (sym is) refl $ k (subst (λ (w : Val). T (has_ty (layout Held) w) × WT w) (sym (ap only is)) (box_typed held h b o fits)))
