-- Why a pair of texts is refused.

use Rattle.std.proofs.Common.{◌≡◌, ◌≢◌, ℕ, List, Option, None, Some, Result, Err, inl, inr, sym, ap, ◌∙◌}
use Rattle.std.specs.Option.{option_and_then}
use Rattle.strips_task.specs.declared.costs.CostedTask.{CostedTask}
use Rattle.pddl_syntax.specs.declared.dialect.Dialect.{Dialect}
use Rattle.pddl_syntax.specs.declared.fault.FaultKind.TheVariants.{OutOfMemory}
use Rattle.pddl_syntax.specs.declared.fault.ReadFault.{ReadFault}
use Rattle.pddl_syntax.specs.Trees.{text_fault}
use Rattle.pddl_reader.specs.Domain.{DomainValue}
use Rattle.pddl_reader.specs.Texts.{domain_in_text, problem_in_text, task_in as read_in}
use Rattle.task_reader.specs.declared.excess.Excess.{Excess}
use Rattle.task_reader.specs.Bindings.{excess}
use Rattle.task_reader.specs.Faults.{CallsFor, IsFaultOf, IsFaultOfExcess, kind_of}
use Rattle.task_reader.specs.declared.readers.TaskFault.{TaskFault}
use Rattle.task_reader.specs.declared.readers.TaskFault.TheVariants.{Domain, Problem}

same_error : {T : Type 0} (e f : ReadFault) → ◌≡◌ {A = Result T ReadFault} (Err e) (Err f) → e ≡ f
same_error e f is = cc

-- a fault that a reader tells, which has no value for the text
module _ {A T : Type 0} (text : List ℕ) (value : Option A) (fault : ReadFault) where
  fault_of : fault.kind ≢ OutOfMemory → (fault.kind ≢ OutOfMemory → value ≡ None)
      → ((e : ReadFault) → text_fault text ≡ Some e → ◌≡◌ {A = Result T ReadFault} (Err fault) (Err e)) → IsFaultOf text value fault
  fault_of kind none first = record {
    no_value = none kind;
    of_the_text = kind;
    first = λ e is. same_error {T = T} fault e (first e is);
  }

module _ (dialect : Dialect) (domain problem : List ℕ) where
  pub domain_called : {T : Type 0} (fault : ReadFault) → (fault.kind ≢ OutOfMemory → domain_in_text dialect domain ≡ None)
      → ((e : ReadFault) → text_fault domain ≡ Some e → ◌≡◌ {A = Result T ReadFault} (Err fault) (Err e))
      → fault.kind ≢ OutOfMemory → CallsFor dialect domain problem (Domain fault)
  domain_called {T} fault none first kind = inl (fault_of {T = T} domain (domain_in_text dialect domain) fault kind none first)

  module _ (value : DomainValue) (is : domain_in_text dialect domain ≡ Some value) where
    pub problem_called : {T : Type 0} (fault : ReadFault) → (fault.kind ≢ OutOfMemory → problem_in_text dialect value problem ≡ None)
        → ((e : ReadFault) → text_fault problem ≡ Some e → ◌≡◌ {A = Result T ReadFault} (Err fault) (Err e))
        → fault.kind ≢ OutOfMemory → CallsFor dialect domain problem (Problem fault)
    problem_called {T} fault none first kind = inl (value, is, fault_of {T = T} problem (problem_in_text dialect value problem) fault kind none first)

    pub excess_called : (task : CostedTask) (found : Excess) (fault : TaskFault) → problem_in_text dialect value problem ≡ Some task → Some found ≡ excess task.task
        → IsFaultOfExcess found fault → kind_of fault ≢ OutOfMemory → CallsFor dialect domain problem fault
    unfolding read_in
    excess_called task found (Domain fault) read past told kind = inr (record {
      task = task;
      of_texts = ap (option_and_then (λ value. problem_in_text dialect value problem)) is ∙ read;
      excess = found;
      is_past = sym past;
      there = told.0;
      too_many = told.1 kind;
    })
    excess_called task found (Problem fault) read past told kind = inr (record {
      task = task;
      of_texts = ap (option_and_then (λ value. problem_in_text dialect value problem)) is ∙ read;
      excess = found;
      is_past = sym past;
      there = told.0;
      too_many = told.1 kind;
    })
