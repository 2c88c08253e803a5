-- The meaning of effects: which atoms one changes in a state (PDDL 2.1, Fox and Long 2003, section 6).

use Rattle.std.specs.Prelude.{ℕ, Bool, List, [], ◌∷◌, ◌++◌, if◌then◌else◌}
use Rattle.std.specs.Bool.{beq}
use Rattle.std.specs.List.{flat_map}
use Rattle.formulas.specs.declared.atoms.Atom.{Atom}
use Rattle.formulas.specs.EffectTree.{EffectTree, change, joint, conditional, universal, EffectParts, no_effects, effect_part}
use Rattle.formulas.specs.Meaning.{atom_of, holds}
use Rattle.formulas.specs.Variables.{variable_types, extensions}

-- `objects_of types` are the objects that have one of these types, each once, and a state says of each atom whether it is true
module _ (objects_of : List ℕ → List ℕ) (state : Atom → Bool) (arguments : List ℕ) (truth : Bool) where
  abbrev mutual
    -- the atoms that an effect makes true, or with `truth` false the atoms that it makes false, with these arguments for the parameters of the action and these
    -- objects for the variables bound around it. The effect of a `when` happens if the condition holds in the state, which is the one before the step; that
    -- of a `forall` happens for every choice of objects for its variables
    pub changes : EffectTree → List ℕ → List Atom
    changes (change positive pattern) bound = if beq positive truth then atom_of arguments bound pattern ∷ [] else []
    changes (joint parts) bound = all_changes parts bound
    changes (conditional condition effect) bound = if holds objects_of state arguments condition bound then changes effect bound else []
    changes (universal groups effect) bound = flat_map (λ extended. changes effect extended) (extensions objects_of (variable_types groups) bound)

    -- the atoms that several effects change
    pub all_changes : EffectParts → List ℕ → List Atom
    all_changes no_effects bound = []
    all_changes (effect_part effect parts) bound = changes effect bound ++ all_changes parts bound
