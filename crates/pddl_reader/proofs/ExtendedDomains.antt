-- A domain with the objects of a problem.

use Rattle.std.proofs.Common.{◌≡◌, List, length, Some, None, refl, subst, sym}
use Rattle.std.specs.Map.{keys_of}
use Rattle.pddl_reader.specs.declared.resolution.domain.Head.{Head}
use Rattle.pddl_reader.specs.declared.resolution.domain.Tables.{Tables}
use Rattle.pddl_reader.specs.Assembled.{domain_assembled}
use Rattle.pddl_reader.specs.Domain.{DomainValue}
use Rattle.pddl_reader.specs.DomainTables.{IsDomain}
use Rattle.pddl_reader.specs.Objects.{Objects, objects_from}
use Rattle.pddl_reader.specs.Problem.{domain_extended}
use Rattle.pddl_syntax.specs.Syntax.{NameGroup}
use Rattle.pddl_reader.proofs.KeptObjects.{objects_kept, objects_behind}
use Rattle.pddl_reader.proofs.MoreObjects.{domain_stays}

-- the head of a domain with other objects
abbrev pub over : Head → Objects → Head
over head more = record head { objects = more }

pub extended_domain : (head : Head) (tables : Tables) (more : Objects) (domain : DomainValue) (groups : List NameGroup) → domain_assembled head tables ≡ domain →
    IsDomain domain → objects_from (keys_of head.types) head.objects groups ≡ Some more → IsDomain (domain_assembled (over head more) tables)
extended_domain head tables more domain groups e d h =
    let is : IsDomain (domain_assembled head tables) = subst IsDomain (sym e) d in
    domain_stays (domain_assembled head tables) more is (objects_behind (keys_of head.types) head.objects groups more h)
    (objects_kept (length head.parents) (keys_of head.types) head.objects groups more is.types_named
    (record { distinct = is.fits.objects_distinct; few = is.fits.few_objects; typed = is.fits.objects_typed }) h)

pub extended_meant : (head : Head) (tables : Tables) (more : Objects) (domain : DomainValue) (groups : List NameGroup) → domain_assembled head tables ≡ domain →
    objects_from (keys_of head.types) head.objects groups ≡ Some more → domain_extended domain groups ≡ Some (domain_assembled (over head more) tables)
unfolding domain_extended
extended_meant head tables more domain groups e h = rw (← e, h) refl

pub not_extended_meant : (head : Head) (tables : Tables) (domain : DomainValue) (groups : List NameGroup) → domain_assembled head tables ≡ domain →
    objects_from (keys_of head.types) head.objects groups ≡ None → domain_extended domain groups ≡ None
unfolding domain_extended
not_extended_meant head tables domain groups e h = rw (← e, h) refl
