-- What the words of the command line ask for.

use Rattle.std.specs.Prelude.{◌≡◌, ℕ, Bool, true, List, ◌∷◌, Some, codes, ◌||◌}
use Rattle.pddl_syntax.specs.declared.dialect.Dialect.{Dialect}
use Rattle.pddl_syntax.specs.declared.dialect.Dialect.TheVariants.{Adl}
use Rattle.report_text.specs.declared.format.Format.{Format}
use Rattle.command_line.specs.Words.{arguments, has_command, operands, value_of}
use Rattle.command_line.specs.Options.{can_show, dialect_asked, format_asked}

-- whether the command is `explain` or `validate`, which write their answer even if something is wrong; the first word is the program's name
abbrev pub asks_what_is_wrong : List (List ℕ) → Bool
asks_what_is_wrong words = has_command (codes "explain") words || has_command (codes "validate") words

-- the command line asks to judge the plans of the files with these names, in a dialect and a format that can show the names
pub record AsksToJudge (words : List (List ℕ)) (dialect : Dialect) (format : Format) (domain problem : List ℕ) (plans : List (List ℕ)) : Type 0 where
  pub command : has_command (codes "judge") words ≡ true
  pub in_dialect : dialect_asked (arguments words) ≡ Some dialect
  pub in_format : format_asked (arguments words) ≡ Some format
  pub of_domain : value_of (codes "--domain") (arguments words) ≡ Some domain
  pub of_problem : value_of (codes "--problem") (arguments words) ≡ Some problem
  pub of_plans : operands (arguments words) ≡ plans
  pub shown : can_show format plans ≡ true

-- the command line asks to replay the steps of a file
pub record AsksToReplay (words : List (List ℕ)) (dialect : Dialect) (domain problem steps : List ℕ) : Type 0 where
  pub command : has_command (codes "replay") words ≡ true
  pub in_dialect : dialect_asked (arguments words) ≡ Some dialect
  pub of_domain : value_of (codes "--domain") (arguments words) ≡ Some domain
  pub of_problem : value_of (codes "--problem") (arguments words) ≡ Some problem
  pub of_steps : value_of (codes "--steps") (arguments words) ≡ Some steps

-- the command line asks to explain what is wrong with a domain, a problem, and plans
pub record AsksToExplain (words : List (List ℕ)) (dialect : Dialect) (domain problem : List ℕ) (plans : List (List ℕ)) : Type 0 where
  pub command : has_command (codes "explain") words ≡ true
  pub in_dialect : dialect_asked (arguments words) ≡ Some dialect
  pub of_domain : value_of (codes "--domain") (arguments words) ≡ Some domain
  pub of_problem : value_of (codes "--problem") (arguments words) ≡ Some problem
  pub of_plans : operands (arguments words) ≡ plans

-- the command line asks to validate plans: the files are those of the domain, of the problem, and of the plans
pub record AsksToValidate (words : List (List ℕ)) (dialect : Dialect) (domain problem : List ℕ) (plans : List (List ℕ)) : Type 0 where
  pub command : has_command (codes "validate") words ≡ true
  pub in_dialect : dialect ≡ Adl
  pub of_files : operands (arguments words) ≡ domain ∷ problem ∷ plans
