-- The last entries of a reflog.
use Rattle.std.proofs.Common.{◌≡◌, List, [], ◌∷◌, ◌++◌, true, false, cond, None, Some, refl, ap}
use Rattle.gix_ref_text.specs.Changes.{is_null, first_some, last_old, last_new}
use Rattle.gix_ref_text.specs.declared.log.LogEntry.{LogEntry}

pub null-last : {A : Type 0} → (xs : List (LogEntry A)) (e : LogEntry A) → is_null e.old.0 ≡ true → last_old (xs ++ e ∷ []) ≡ last_old xs
null-last [] e h = ap (λ t. cond t None (Some e.old.0)) h
null-last (x ∷ xs) e h = ap (λ o. first_some o (cond (is_null x.old.0) None (Some x.old.0))) (null-last xs e h)

pub old-last : {A : Type 0} → (xs : List (LogEntry A)) (e : LogEntry A) → is_null e.old.0 ≡ false → last_old (xs ++ e ∷ []) ≡ Some e.old.0
old-last [] e none = ap (λ t. cond t None (Some e.old.0)) none
old-last (x ∷ xs) e none = ap (λ o. first_some o (cond (is_null x.old.0) None (Some x.old.0))) (old-last xs e none)

pub new-last : {A : Type 0} → (xs : List (LogEntry A)) (e : LogEntry A) → last_new (xs ++ e ∷ []) ≡ Some e.new.0
new-last [] e = refl
new-last (x ∷ xs) e = ap (λ o. first_some o (Some x.new.0)) (new-last xs e)
