-- What the larger dialects keep of the smaller ones.

use Rattle.std.specs.Prelude.{◌≡◌, ℕ, List, [], Some, None}
use Rattle.strips_task.specs.declared.costs.CostedTask.{CostedTask}
use Rattle.pddl_syntax.specs.declared.dialect.Dialect.TheVariants.{Strips, Ipc, Adl}
use Rattle.pddl_reader.specs.Domain.{DomainValue}
use Rattle.pddl_reader.specs.Texts.{domain_in_text, problem_in_text}

-- a text that is a domain of STRIPS is the same domain in the dialect `ipc`, and has no functions
abbrev pub AreDomainTextsKept : Type 0
AreDomainTextsKept = (text : List ℕ) (domain : DomainValue) → domain_in_text Strips text ≡ Some domain → (domain_in_text Ipc text ≡ Some domain) × (domain.functions ≡ [])

-- a text that is a problem of STRIPS stands for the same task in the dialect `ipc`, and counts no costs if the domain has no functions
abbrev pub AreProblemTextsKept : Type 0
AreProblemTextsKept = (text : List ℕ) (domain : DomainValue) (task : CostedTask) → problem_in_text Strips domain text ≡ Some task →
    (problem_in_text Ipc domain text ≡ Some task) × (domain.functions ≡ [] → task.costs ≡ None)

-- a text that is a domain of `ipc` is the same domain in the dialect `adl`
abbrev pub AreDomainTextsKeptInAdl : Type 0
AreDomainTextsKeptInAdl = (text : List ℕ) (domain : DomainValue) → domain_in_text Ipc text ≡ Some domain → domain_in_text Adl text ≡ Some domain

-- a text that is a problem of `ipc` stands for the same task in the dialect `adl`, with the same costs
abbrev pub AreProblemTextsKeptInAdl : Type 0
AreProblemTextsKeptInAdl = (text : List ℕ) (domain : DomainValue) (task : CostedTask) →
    problem_in_text Ipc domain text ≡ Some task → problem_in_text Adl domain text ≡ Some task
