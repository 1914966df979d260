-- What holds of an answer, if there is one.
use Rattle.std.proofs.Common.{◌≡◌, Result, Ok, Err, IfOk, sym, subst}

pub if-ok-is : {T E : Type 0} (P : T → Type 0) (x : T) (r : Result T E) → IfOk r (λ y. y ≡ x) → P x → IfOk r P
if-ok-is P x (Ok y) is p = subst P (sym is) p
if-ok-is P x (Err e) is p = tt
