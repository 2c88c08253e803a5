-- A text stands for one plan at most.

use Rattle.std.proofs.Common.{◌≡◌, ℕ, ◌<◌, ◌≤◌, ◌^◌, List, [], ◌∷◌, ◌++◌, length, Option, Some, None, refl, sym, ap, ◌∙◌, subst, ⊎_elim, append_assoc}
use Rattle.std.specs.Option.{option_and_then}
use Rattle.std.proofs.lemmas.List.{append-nil}
use Rattle.pddl_tokens.specs.Tokens.{Piece, token, bad, pieces}
use Rattle.strips_task.specs.declared.plans.Plan.{Plan}
use Rattle.strips_task.specs.declared.plans.Plan.TheVariants.{Steps, Unreadable}
use Rattle.strips_task.specs.declared.steps.StepText.{StepText}
use Rattle.plan_text.specs.declared.want.Want.{Want}
use Rattle.plan_text.specs.declared.want.Want.TheVariants.{Step, Number, Opening, Action, Argument}
use Rattle.plan_text.specs.PlanGrammar.{Symbol, symbol_of, symbols, IsPlanText, IsViable}
use Rattle.plan_text.specs.PlanReading.{Reading, nothing_read, read_on, at_end, behind, unreadable, plan_from, plan_of}
use Rattle.plan_text.specs.PlanFaults.{AreTokens, offset_of, Refuses, IsFaultAt, EndsTooEarly, IsFaultLine, IsPlanOf}
use Rattle.plan_text.specs.Walks.{IsBetween}
use Rattle.plan_text.proofs.Runs.{reading, run, run-append, run_plan}
use Rattle.plan_text.proofs.Reached.{IsReached, reached_start, reached_on, viable_reached, plan_reached}
use Rattle.plan_text.proofs.Lemmas.{plan_bad, plan_refused, plan_too_long, plan_short}

-- tokens that are read lead to where reading them leads
reads_by : (text : List ℕ) (offset : ℕ) (before ps : List Piece) (end : Reading) (o : Option Reading) → option_and_then (λ next. run next (symbols before)) o ≡ Some end → ((next : Reading) → run next (symbols before) ≡ Some end → plan_from text next (before ++ ps) ≡ plan_from text end ps) → behind text offset (λ next. plan_from text next (before ++ ps)) o ≡ plan_from text end ps
reads_by text offset before ps end None ran rest = absurd cc
reads_by text offset before ps end (Some next) ran rest = rest next ran

reads_to : (text : List ℕ) (before ps : List Piece) (r end : Reading) → AreTokens before → run r (symbols before) ≡ Some end → plan_from text r (before ++ ps) ≡ plan_from text end ps
unfolding plan_from symbols
reads_to text [] ps r end tokens ran = let same : r ≡ end = cc in ap (λ (x : Reading). plan_from text x ps) same
reads_to text (bad at ∷ before) ps r end tokens ran = absurd tokens
reads_to text (token kind span bytes ∷ before) ps r end tokens ran =
    reads_by text span.start before ps end (read_on r (symbol_of kind bytes)) ran (λ next h. reads_to text before ps next end tokens h)

-- what is read is reached
reached_by : (done more : List Symbol) (r end : Reading) (s : Symbol) (o : Option Reading) → read_on r s ≡ o → IsReached done r → option_and_then (λ next. run next more) o ≡ Some end → ((next : Reading) → IsReached (done ++ s ∷ []) next → run next more ≡ Some end → IsReached ((done ++ s ∷ []) ++ more) end) → IsReached (done ++ s ∷ more) end
reached_by done more r end s None is reached ran rest = absurd cc
reached_by done more r end s (Some next) is reached ran rest =
    subst (λ (ss : List Symbol). IsReached ss end) (append_assoc done (s ∷ []) more) (rest next (reached_on r done s next reached is) ran)

reached_from : (more done : List Symbol) (r end : Reading) → IsReached done r → run r more ≡ Some end → IsReached (done ++ more) end
reached_from [] done r end reached ran =
    let same : r ≡ end = cc in
    subst (λ (ss : List Symbol). IsReached ss end) (sym (append-nil done)) (subst (IsReached done) same reached)
reached_from (s ∷ more) done r end reached ran =
    reached_by done more r end s (read_on r s) refl reached ran (λ next at h. reached_from more (done ++ s ∷ []) next end at h)

is_reached : (tokens : List Symbol) (r : Reading) → run nothing_read tokens ≡ Some r → IsReached tokens r
is_reached tokens r ran = reached_from tokens [] nothing_read r reached_start ran

-- viable tokens are read
pub record IsRead (tokens : List Symbol) : Type 0 where
  pub reading : Reading
  pub ran : run nothing_read tokens ≡ Some reading

viable_by : (tokens more : List Symbol) (end : Reading) (o : Option Reading) → run nothing_read tokens ≡ o → option_and_then (λ next. run next more) o ≡ Some end → IsRead tokens
viable_by tokens more end None is ran = absurd cc
viable_by tokens more end (Some r) is ran = record { reading = r; ran = is }

viable_read : (tokens : List Symbol) → IsViable tokens → IsRead tokens
viable_read tokens viable =
    viable_by tokens viable.more _ (run nothing_read tokens) refl
    (sym (run-append nothing_read tokens viable.more) ∙ (run_plan (tokens ++ viable.more) viable.steps viable.completed).ran)

-- a token that leaves nothing viable is not read on
refused_by : (tokens : List Symbol) (r : Reading) (s : Symbol) (o : Option Reading) → read_on r s ≡ o → IsReached tokens r → (IsViable (tokens ++ s ∷ []) → ⊥) → o ≡ None
refused_by tokens r s None is reached refused = refl
refused_by tokens r s (Some next) is reached refused = absurd (refused (viable_reached _ next (reached_on r tokens s next reached is)))

fault_read : (text : List ℕ) (tokens : List Symbol) (r : Reading) (fault : Piece) (ps : List Piece) → run nothing_read tokens ≡ Some r → Refuses tokens fault → plan_from text r (fault ∷ ps) ≡ unreadable text (offset_of fault)
fault_read text tokens r (bad at) ps ran refused = plan_bad text r at ps
fault_read text tokens r (token kind span bytes) ps ran refused =
    plan_refused text r kind span bytes ps (refused_by tokens r (symbol_of kind bytes) (read_on r (symbol_of kind bytes)) refl (is_reached tokens r ran) refused)

-- at the end inside a step
end_read : (text : List ℕ) (tokens : List Symbol) (want : Want) (least : ℕ) (steps : List StepText) (words : List (List ℕ)) → IsReached tokens (reading want least steps words) → ((ss : List StepText) → IsPlanText tokens ss → ⊥) → at_end want text steps ≡ unreadable text (length text)
end_read text tokens Step least steps words reached none = absurd (none steps (plan_reached Step tokens least steps words tt reached))
end_read text tokens Number least steps words reached none = absurd (none steps (plan_reached Number tokens least steps words tt reached))
end_read text tokens Opening least steps words reached none = refl
end_read text tokens Action least steps words reached none = refl
end_read text tokens Argument least steps words reached none = refl

-- at the end between steps
end_whole : (want : Want) (text : List ℕ) (steps : List StepText) → IsBetween want → at_end want text steps ≡ Steps steps
end_whole Step text steps between = refl
end_whole Number text steps between = refl
end_whole Opening text steps between = absurd between
end_whole Action text steps between = absurd between
end_whole Argument text steps between = absurd between

reads_whole : (text : List ℕ) (end : Reading) → length text < 2 ^ 31 → AreTokens (pieces text) → run nothing_read (symbols (pieces text)) ≡ Some end → plan_of text ≡ at_end end.want text end.steps
unfolding plan_from
reads_whole text end short tokens ran =
    sym (plan_short text short) ∙ ap (plan_from text nothing_read) (sym (append-nil (pieces text))) ∙ reads_to text (pieces text) [] nothing_read end tokens ran

only_fault : (text : List ℕ) (offset : ℕ) → length text < 2 ^ 31 → IsFaultAt text offset → plan_of text ≡ unreadable text offset
only_fault text offset short fault =
    let at = viable_read (symbols fault.before) fault.viable in
    sym (plan_short text short) ∙ ap (plan_from text nothing_read) fault.split
    ∙ reads_to text fault.before (fault.fault ∷ fault.behind) nothing_read at.reading fault.tokens at.ran
    ∙ fault_read text (symbols fault.before) at.reading fault.fault fault.behind at.ran fault.refused
    ∙ ap (unreadable text) (sym fault.begins)

only_end : (text : List ℕ) → length text < 2 ^ 31 → EndsTooEarly text → plan_of text ≡ unreadable text (length text)
only_end text short early =
    let at = viable_read (symbols (pieces text)) early.viable in
    reads_whole text at.reading short early.tokens at.ran
    ∙ end_read text (symbols (pieces text)) at.reading.want at.reading.least at.reading.steps at.reading.words (is_reached _ at.reading at.ran) early.no_plan

only_line : (text : List ℕ) (line : ℕ) (fault : IsFaultLine text line) → plan_of text ≡ unreadable text fault.offset
only_line text line fault =
    ⊎_elim
    (λ (at : IsFaultAt text fault.offset). only_fault text fault.offset fault.short at)
    (λ (early : EndsTooEarly text × (fault.offset ≡ length text)). only_end text fault.short early.0 ∙ ap (unreadable text) (sym early.1))
    fault.fault

-- a text stands for the plan that is read of it, and for no other
pub only_plan : (text : List ℕ) (plan : Plan) → IsPlanOf text plan → plan ≡ plan_of text
only_plan text (Steps steps) is =
    let whole = run_plan (symbols (pieces text)) steps is.plan in
    sym (reads_whole text (reading whole.want whole.least steps []) is.short is.tokens whole.ran ∙ end_whole whole.want text steps whole.between)
only_plan text (Unreadable line) is =
    ⊎_elim
    (λ (long : (2 ^ 31 ≤ length text) × (line ≡ 1)). ap Unreadable long.1 ∙ sym (plan_too_long text long.0))
    (λ (fault : IsFaultLine text line). ap Unreadable fault.in_line ∙ sym (only_line text line fault))
    is
