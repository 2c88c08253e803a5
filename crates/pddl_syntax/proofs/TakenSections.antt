-- What sections and problems do to a taker of the initial atoms and values.

use Rattle.std.proofs.Common.{◌≡◌, true, false, List, [], Option, Some, None, is_some, ◌⊎◌, inl, inr, unwrap_or, refl}
use Rattle.std.specs.Global.{Vec}
use Rattle.std.specs.Option.{option_map}
use Rattle.pddl_syntax.specs.declared.heads.ProblemSection.TheVariants.{Objects, Init}
use Rattle.pddl_syntax.specs.declared.syntax.NameGroup as groups
use Rattle.pddl_syntax.specs.declared.syntax.ProblemSections as sections
use Rattle.pddl_syntax.specs.Forms.{name_groups, problem_sections_form}
use Rattle.pddl_syntax.specs.Initial.{HasTaken, TakesSection, given_all}
use Rattle.pddl_syntax.specs.Syntax.{InitialForm, NameGroup, is_problem_section_given}

absent : {X P : Type 0} (o : Option X) (x : X) → is_some o ≡ false → o ≡ Some x → P
absent {X} None x h e = let clash : ◌≡◌ {A = Option X} None (Some x) = e in cc
absent (Some y) x h e = let clash : true ≡ false = h in cc

not_there : {X : Type 0} (o : Option X) → is_some o ≡ false → o ≡ None
not_there None h = refl
not_there (Some x) h = let clash : true ≡ false = h in cc

module _ {T : Type 0} (begun : T → List NameGroup → T) (given : T → InitialForm → T) where
  -- objects are given to no taker yet
  pub objects_taken : (s : sections.ProblemSections) (v : Vec groups.NameGroup) (before : T) → is_problem_section_given Objects (problem_sections_form s) ≡ false →
      TakesSection begun given (problem_sections_form s) (problem_sections_form (record s { objects = Some v })) before before
  unfolding problem_sections_form is_problem_section_given
  objects_taken s v before h = ((λ names e. absent (option_map (λ v. name_groups v.items) s.objects) names h e, λ items e. e), inl refl)

  -- the initial atoms and values are, if the objects are known
  pub init_taken : (s : sections.ProblemSections) (items : List InitialForm) (before after : T) → is_problem_section_given Init (problem_sections_form s) ≡ false →
      HasTaken begun given before after (option_map (λ v. name_groups v.items) s.objects) (Some items) →
      TakesSection begun given (problem_sections_form s) (problem_sections_form (record s { init = Some items })) before after
  unfolding problem_sections_form is_problem_section_given
  init_taken s items before after h (inl same) = ((λ names e. e, λ others e. absent s.init others h e), inl same)
  init_taken s items before after h (inr (names, found, objects, init, taken)) =
      ((λ names e. e, λ others e. absent s.init others h e), inr (names, found, not_there s.init h, objects, init, taken))

  -- those of all sections are those of the problem
  pub all_taken : (objects : Option (List NameGroup)) (init : Option (List InitialForm)) (before after : T) → HasTaken begun given before after objects init →
      (after ≡ before) ⊎ (after ≡ given_all given (begun before (unwrap_or objects [])) (unwrap_or init []))
  all_taken objects init before after (inl same) = inl same
  all_taken objects init before after (inr (names, items, o, i, taken)) = inr (rw (o, i) taken)
