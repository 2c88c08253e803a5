-- What is there is read, unless memory runs out.

use Rattle.std.proofs.Common.{◌≡◌, ◌≢◌, Option, Some, None, IsSome, refl}
use Rattle.pddl_syntax.specs.declared.fault.FaultKind.{FaultKind}
use Rattle.pddl_syntax.specs.declared.fault.FaultKind.TheVariants.{BadText, Unbalanced, Expected, Unsupported, UnknownName, Repeated, TypeCycle, WrongCount, WrongType, TooDeep, TooMany, OutOfMemory}
use Rattle.pddl_syntax.specs.declared.fault.ReadFault.{ReadFault}
use Rattle.pddl_syntax.specs.ReadFault.{out_of_memory}

pub only_memory : {A : Type 0} (read : Option A) (e : ReadFault) → IsSome read → (e.kind ≡ OutOfMemory → e ≡ out_of_memory) →
    (e.kind ≢ OutOfMemory → read ≡ None) → e ≡ out_of_memory
only_memory read e h memory other = memory (kind_of e.kind (λ k. there read h (other k)))
  where
    there : {A : Type 0} (read : Option A) → IsSome read → read ≡ None → ⊥
    there None s h = cc
    there (Some x) s h = cc

    kind_of : (kind : FaultKind) → (kind ≢ OutOfMemory → ⊥) → kind ≡ OutOfMemory
    kind_of OutOfMemory h = refl
    kind_of BadText h = absurd (h (λ e. cc))
    kind_of Unbalanced h = absurd (h (λ e. cc))
    kind_of Expected h = absurd (h (λ e. cc))
    kind_of Unsupported h = absurd (h (λ e. cc))
    kind_of UnknownName h = absurd (h (λ e. cc))
    kind_of Repeated h = absurd (h (λ e. cc))
    kind_of TypeCycle h = absurd (h (λ e. cc))
    kind_of WrongCount h = absurd (h (λ e. cc))
    kind_of WrongType h = absurd (h (λ e. cc))
    kind_of TooDeep h = absurd (h (λ e. cc))
    kind_of TooMany h = absurd (h (λ e. cc))
