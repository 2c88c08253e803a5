-- A type whose drop function has no lifetimes may be dropped where a call is handed it. Assumes `Logic`.
use Rattle.std.proofs.Common.{[], ◌∷◌}
use seplogic.Ra.Ura.{Ura}
use mir.Syntax.{Ty, Dict, Callee, method, no_args}
use base.Logic.{SProp, sep, emp, id⊢}
use base.Fml.{Lft, Share, ftrue, fsep, flft}
use prog.Model.{Model}
use prog.Routine.{Env, Routine, ◌≼⁺◌}
use types.Logic.{Logic, sem}
use types.Kit.{‵, raw, ◌⊛◌, some, later, ◌$◌, ◌∵◌, !, qed, by, move, keep, use0, use1, split, join, fjoin, pick, show, await, updating, now, done}
use contract.Monad.{fact}
use contract.Running.{Running}
use contract.BorrowLft.{◌⊑◌}
use denote.Exit.{yes, no}
use denote.Param.{arg}
use denote.Builtin.{unit}
use denote.RattleType.{RattleType}
use denote.Signature.{Signature, plain}
use denote.Steps.{nothing}
use denote.Param.Glue as glue
use denote.Triple.Clauses.{Ended, Clauses, closing}
use denote.Triple.Statement.{Contract}
use denote.Triple.Spec.{Meets, Back, triple_of}
use denote.Triple.Table.{widened, run_framed}

module _ (R : RattleType) where
  abbrev drop_sig : Signature
  drop_sig = record { lifetimes = 0; outlives = []; params = plain (λ _. R) ∷ []; result = plain (λ _. unit) }

  abbrev ended : Ended
  ended = record { signature = drop_sig; kept = (yes, tt) }

  abbrev clauses : {M : Type 1} {𝓤 : Ura M} → Clauses 𝓤 ended
  clauses {𝓤 = 𝓤} κs a = record { ghost = Unit {0}; requires = λ _. emp 𝓤; ensures = λ _ r e. emp 𝓤 }

  pub drops_as : {M : Type 1} (𝓤 : Ura M) (𝓛 : Logic 𝓤) (𝓜 : Model 𝓤 𝓛.H) (𝓡 : Running 𝓤 𝓛.H 𝓜) (γ : Env) (δ : Ty) (k : Callee) (d : Dict) → γ k ≼⁺ γ (method d 0 no_args)
      → Meets 𝓛 drop_sig (𝓡.run (γ k)) (closing 𝓛 ended clauses) → glue.Met 𝓛 𝓜 𝓡 γ (arg δ no R) d
  drops_as 𝓤 𝓛 𝓜 𝓡 γ δ k d wider met z =
      let ρ : Routine = γ (method d 0 no_args) in let Own : Contract 𝓤 = triple_of 𝓛 drop_sig (closing 𝓛 ended clauses) in let All : Contract 𝓤 = triple_of 𝓛 (glue.signature (arg δ no R)) (glue.spent 𝓛 (arg δ no R)) in
      let κ : Lft = z.0.0.0 in let q : Share = z.0.1.0 in let y : Own.Ghost = ((tt, tt, tt, z.0.3, z.0.4), tt) in
      qed 𝓛 (((‵ (flft κ q) ⊛ ‵ ftrue) ⊛ ‵ (fsep (R.own_val z.0.3.0 z.0.4.0) ftrue)) ∷ raw (fact 𝓤 (κ ⊑ R.lives)) ∷ ‵ ftrue ∷ []) {P = 𝓡.run ρ (All.args z) (All.post z)} (
      split ! $ split ! $ keep ! (0 ∷ 2 ∷ []) $ nothing ! $ move ! (2 ∷ 0 ∷ []) $ nothing ! $ join ! $ join ! $ use1 𝓛 (raw (Own.pre y)) (id⊢ 𝓤 _) $
      use1 𝓛 (raw (𝓡.run ρ (Own.args y) (Own.post y))) (widened 𝓤 𝓛.H Own 𝓜 𝓡 γ (γ k) ρ wider met y) $
      by ! (run_framed 𝓤 𝓛.H 𝓜 𝓡 ρ (Own.args y) (Own.post y) (All.post z) (𝓛.A.lft κ q) (λ v.
      let Left : SProp 𝓤 = (glue.spent 𝓛 (arg δ no R) z.0.0 z.0.3).ensures z.1 tt in
      qed 𝓛 (raw (Own.post y v) ∷ ‵ (flft κ q) ∷ []) ∵ updating ! $
      use1 𝓛 (later (some (λ (r : Unit {0}). (‵ ftrue ⊛ ‵ (unit.own_val r (v ∷ []))) ⊛ raw ((closing 𝓛 ended (clauses {𝓤 = 𝓤}) tt z.0.3).ensures tt r)))) (id⊢ 𝓤 _) $
      await ! tt $ pick ! (λ r. split ! $ split ! $ keep ! (1 ∷ 3 ∷ []) $ now ! $
      show ! (λ (_ : Unit {0}). sep 𝓤 (Back 𝓛 (glue.signature (arg δ no R)) z.0 v tt) Left) tt $
      use0 𝓛 (raw Left) (qed 𝓛 [] ∵ show ! (λ (_ : Unit {0} × Unit {0}). sep 𝓤 (sem 𝓛 (fsep ftrue ftrue)) (emp 𝓤)) (tt, tt) $ nothing ! $ nothing ! $ nothing ! $ fjoin ! $ done !) $
      nothing ! $ move ! (3 ∷ 0 ∷ []) $ join ! $ move ! (0 ∷ 2 ∷ []) $ join ! $ done !))))
