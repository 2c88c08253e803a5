-- How the dialects are related.

use Rattle.std.specs.Prelude.{◌≡◌, [], Some}
use Rattle.pddl_syntax.specs.declared.dialect.Dialect.TheVariants.{Strips, Ipc, Adl}
use Rattle.pddl_syntax.specs.Trees.{Trees}
use Rattle.pddl_syntax.specs.Syntax.{DomainForm, ProblemForm, domain_syntax, problem_syntax}

-- a domain of the smaller language is the same one in the larger, and has no functions
abbrev pub AreDomainsKept : Type 0
AreDomainsKept = (trees : Trees) (domain : DomainForm) → domain_syntax Strips trees ≡ Some domain →
    (domain_syntax Ipc trees ≡ Some domain) × (domain.functions ≡ [])

-- a problem of the smaller language is the same one in the larger
abbrev pub AreProblemsKept : Type 0
AreProblemsKept = (trees : Trees) (problem : ProblemForm) → problem_syntax Strips trees ≡ Some problem → problem_syntax Ipc trees ≡ Some problem

-- a domain of the language of the competitions is the same one in the largest language
abbrev pub AreDomainsKeptInAdl : Type 0
AreDomainsKeptInAdl = (trees : Trees) (domain : DomainForm) → domain_syntax Ipc trees ≡ Some domain → domain_syntax Adl trees ≡ Some domain

-- a problem of the language of the competitions is the same one in the largest language
abbrev pub AreProblemsKeptInAdl : Type 0
AreProblemsKeptInAdl = (trees : Trees) (problem : ProblemForm) → problem_syntax Ipc trees ≡ Some problem → problem_syntax Adl trees ≡ Some problem
