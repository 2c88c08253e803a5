-- The plan that is read of a text is the plan for which it stands.

use Rattle.std.proofs.Common.{◌≡◌, ℕ, ◌<◌, ◌^◌, Bool, true, false, List, [], ◌∷◌, ◌++◌, length, Option, Some, None, refl, sym, ap, ◌∙◌, subst, inl, inr, append_assoc}
use Rattle.std.specs.Prelude.{nat_lt, cond}
use Rattle.std.proofs.lemmas.List.{append-nil}
use Rattle.std.proofs.lemmas.Bool.{ltb-true, ltb-false}
use Rattle.pddl_tokens.specs.declared.spans.Span.{Span}
use Rattle.pddl_tokens.specs.declared.spans.TokenKind.{TokenKind}
use Rattle.pddl_tokens.specs.Tokens.{Piece, token, bad, pieces}
use Rattle.pddl_tokens.specs.Lines.{line_of}
use Rattle.strips_task.specs.declared.plans.Plan.TheVariants.{Steps, Unreadable}
use Rattle.strips_task.specs.declared.steps.StepText.{StepText}
use Rattle.plan_text.specs.declared.want.Want.{Want}
use Rattle.plan_text.specs.declared.want.Want.TheVariants.{Step, Number, Opening, Action, Argument}
use Rattle.plan_text.specs.PlanGrammar.{Symbol, symbol_of, symbols, IsPlanText, IsViable}
use Rattle.plan_text.specs.PlanReading.{Reading, nothing_read, read_on, at_end, behind, plan_from, plan_of}
use Rattle.plan_text.specs.PlanFaults.{AreTokens, offset_of, Refuses, IsFaultLine, IsPlanOf}
use Rattle.plan_text.specs.Walks.{IsBetween}
use Rattle.plan_text.proofs.Runs.{run}
use Rattle.plan_text.proofs.Reached.{IsReached, reached_start, reached_on, viable_reached, plan_reached, not_viable, run_more, no_plan}

symbols-append : (before ps : List Piece) → AreTokens before → symbols (before ++ ps) ≡ symbols before ++ symbols ps
unfolding symbols
symbols-append [] ps tokens = refl
symbols-append (bad at ∷ before) ps tokens = absurd tokens
symbols-append (token kind span bytes ∷ before) ps tokens = ap (λ (ss : List Symbol). symbol_of kind bytes ∷ ss) (symbols-append before ps tokens)

tokens-push : (before : List Piece) (kind : TokenKind) (span : Span) (bytes : List ℕ) → AreTokens before → AreTokens (before ++ token kind span bytes ∷ [])
tokens-push [] kind span bytes tokens = tt
tokens-push (bad at ∷ before) kind span bytes tokens = tokens
tokens-push (token k s b ∷ before) kind span bytes tokens = tokens-push before kind span bytes tokens

symbols-push : (before : List Piece) (kind : TokenKind) (span : Span) (bytes : List ℕ) → AreTokens before → symbols (before ++ token kind span bytes ∷ []) ≡ symbols before ++ symbol_of kind bytes ∷ []
unfolding symbols
symbols-push before kind span bytes tokens = symbols-append before (token kind span bytes ∷ []) tokens

-- what was read before an offset of a text
pub record IsReadBefore (text : List ℕ) (before ps : List Piece) (r : Reading) : Type 0 where
  pub short : length text < 2 ^ 31
  pub split : pieces text ≡ before ++ ps
  pub tokens : AreTokens before
  pub ran : run nothing_read (symbols before) ≡ Some r
  pub reached : IsReached (symbols before) r

-- at the end, inside a step
ends_early : (text : List ℕ) (before : List Piece) (r : Reading) → IsReadBefore text before [] r → (IsBetween r.want → ⊥) → IsFaultLine text (line_of text (length text))
ends_early text before r read unended =
    let all : before ≡ pieces text = sym (read.split ∙ append-nil before) in
    record {
      short = read.short;
      offset = length text;
      fault = inr (
        record {
          tokens = subst AreTokens all read.tokens;
          viable = subst (λ (ps : List Piece). IsViable (symbols ps)) all (viable_reached _ r read.reached);
          no_plan = λ steps plan. no_plan (symbols before) r read.ran unended steps (subst (λ (ps : List Piece). IsPlanText (symbols ps) steps) (sym all) plan);
        },
        refl,
      );
      in_line = refl;
    }

-- at the end, where no step is begun
ends_well : (text : List ℕ) (before : List Piece) (want : Want) (least : ℕ) (steps : List StepText) (words : List (List ℕ)) → IsBetween want → IsReadBefore text before [] (record { want = want; least = least; steps = steps; words = words }) → IsPlanOf text (Steps steps)
ends_well text before want least steps words between read =
    let all : before ≡ pieces text = sym (read.split ∙ append-nil before) in
    record {
      short = read.short;
      tokens = subst AreTokens all read.tokens;
      plan = subst (λ (ps : List Piece). IsPlanText (symbols ps) steps) all (plan_reached want (symbols before) least steps words between read.reached);
    }

-- at the end
plan_at_end : (text : List ℕ) (before : List Piece) (want : Want) (least : ℕ) (steps : List StepText) (words : List (List ℕ)) → IsReadBefore text before [] (record { want = want; least = least; steps = steps; words = words }) → IsPlanOf text (at_end want text steps)
plan_at_end text before Step least steps words read = ends_well text before Step least steps words tt read
plan_at_end text before Number least steps words read = ends_well text before Number least steps words tt read
plan_at_end text before Opening least steps words read = inr (ends_early text before _ read (λ between. between))
plan_at_end text before Action least steps words read = inr (ends_early text before _ read (λ between. between))
plan_at_end text before Argument least steps words read = inr (ends_early text before _ read (λ between. between))

-- a piece that is refused
fault_line : (text : List ℕ) (before : List Piece) (fault : Piece) (ps : List Piece) (r : Reading) → IsReadBefore text before (fault ∷ ps) r → Refuses (symbols before) fault → IsFaultLine text (line_of text (offset_of fault))
fault_line text before fault ps r read refused = record {
  short = read.short;
  offset = offset_of fault;
  fault = inl (record {
    before = before;
    fault = fault;
    behind = ps;
    split = read.split;
    tokens = read.tokens;
    viable = viable_reached _ r read.reached;
    refused = refused;
    begins = refl;
  });
  in_line = refl;
}

read_more : (text : List ℕ) (before : List Piece) (kind : TokenKind) (span : Span) (bytes : List ℕ) (ps : List Piece) (r next : Reading) → IsReadBefore text before (token kind span bytes ∷ ps) r → read_on r (symbol_of kind bytes) ≡ Some next → IsReadBefore text (before ++ token kind span bytes ∷ []) ps next
read_more text before kind span bytes ps r next read is =
    let pushed = sym (symbols-push before kind span bytes read.tokens) in
    record {
      short = read.short;
      split = read.split ∙ sym (append_assoc before (token kind span bytes ∷ []) ps);
      tokens = tokens-push before kind span bytes read.tokens;
      ran = subst (λ (ss : List Symbol). run nothing_read ss ≡ Some next) pushed (run_more (symbols before) r (symbol_of kind bytes) next read.ran is);
      reached = subst (λ (ss : List Symbol). IsReached ss next) pushed (reached_on r (symbols before) (symbol_of kind bytes) next read.reached is);
    }

-- behind a token, by whether it was read on
plan_behind : (text : List ℕ) (before : List Piece) (kind : TokenKind) (span : Span) (bytes : List ℕ) (ps : List Piece) (r : Reading) → IsReadBefore text before (token kind span bytes ∷ ps) r → ((b : List Piece) (next : Reading) → IsReadBefore text b ps next → IsPlanOf text (plan_from text next ps)) → (o : Option Reading) → read_on r (symbol_of kind bytes) ≡ o → IsPlanOf text (behind text span.start (λ next. plan_from text next ps) o)
plan_behind text before kind span bytes ps r read rest None is =
    inr (fault_line text before (token kind span bytes) ps r read (not_viable (symbols before) r (symbol_of kind bytes) read.ran is))
plan_behind text before kind span bytes ps r read rest (Some next) is =
    rest (before ++ token kind span bytes ∷ []) next (read_more text before kind span bytes ps r next read is)

-- the rest of a text is read as the plan for which the whole stands
plan_rest : (text : List ℕ) (ps before : List Piece) (r : Reading) → IsReadBefore text before ps r → IsPlanOf text (plan_from text r ps)
unfolding plan_from
plan_rest text [] before r read = plan_at_end text before r.want r.least r.steps r.words read
plan_rest text (bad at ∷ ps) before r read = inr (fault_line text before (bad at) ps r read tt)
plan_rest text (token kind span bytes ∷ ps) before r read =
    plan_behind text before kind span bytes ps r read (λ b next h. plan_rest text ps b next h) (read_on r (symbol_of kind bytes)) refl

plan_of_by : (text : List ℕ) (short : Bool) → nat_lt (length text) (2 ^ 31) ≡ short → IsPlanOf text (cond short (plan_from text nothing_read (pieces text)) (Unreadable 1))
unfolding symbols
plan_of_by text true is = plan_rest text (pieces text) [] nothing_read (record {
  short = ltb-true _ _ is;
  split = refl;
  tokens = tt;
  ran = refl;
  reached = reached_start;
})
plan_of_by text false is = inl (ltb-false _ _ is, refl)

-- the plan that is read of a text is the plan for which it stands
pub plan_is_of : (text : List ℕ) → IsPlanOf text (plan_of text)
unfolding plan_of
plan_is_of text = plan_of_by text (nat_lt (length text) (2 ^ 31)) refl
