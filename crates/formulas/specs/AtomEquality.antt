-- Comparing two atoms decides whether they are the same. The laws of their comparisons and hashes rest on that.

use Rattle.std.proofs.Common.{◌≡◌, ℕ, List, nat_eq, ◌&&◌, ap, Decides}
use Rattle.std.proofs.lemmas.Bool.{eqb-true, eq-eqb}
use Rattle.std.specs.Cmp.{first_so, second_so}
use Rattle.std.specs.Cmp.Lexicographic.{bytes_decides, pointwise}
use Rattle.formulas.specs.declared.atoms.Atom.{Atom}
use Rattle.formulas.specs.Atom.{atom_eq}

-- atoms that are equal by the test are the same
pub atom_decides : (a b : Atom) → Decides (atom_eq a b) (a ≡ b)
atom_decides a b = (
  λ h. let preds : a.pred ≡ b.pred = eqb-true a.pred b.pred (first_so (nat_eq a.pred b.pred) (pointwise nat_eq a.args b.args) h) in
      let args : ◌≡◌ {A = List ℕ} a.args b.args = (bytes_decides a.args b.args).0 (second_so (nat_eq a.pred b.pred) (pointwise nat_eq a.args b.args) h) in
      λ j. record { pred = preds j; args = args j },
  λ e. let preds : a.pred ≡ b.pred = ap (λ (x : Atom). x.pred) e in
      let args : ◌≡◌ {A = List ℕ} a.args b.args = ap (λ (x : Atom). x.args) e in
      λ j. eq-eqb a.pred b.pred preds j && (bytes_decides a.args b.args).1 args j,
)
