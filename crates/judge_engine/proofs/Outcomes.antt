-- What follows of an outcome.

use Rattle.std.proofs.Common.{Result, Ok, Err, IfOk, IfErr}

-- what follows of the value follows of the answer
pub if_ok_more : {T E : Type 0} {P Q : T → Type 0} (r : Result T E) → ((x : T) → P x → Q x) → IfOk r P → IfOk r Q
if_ok_more (Ok x) f h = f x h
if_ok_more (Err e) f h = tt

pub if_err_more : {T E : Type 0} {P Q : E → Type 0} (r : Result T E) → ((e : E) → P e → Q e) → IfErr r P → IfErr r Q
if_err_more (Ok x) f h = tt
if_err_more (Err e) f h = f e h
