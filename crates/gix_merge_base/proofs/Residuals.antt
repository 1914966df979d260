-- What a call that hands on a refusal by `?` answers.
use Rattle.std.proofs.Common.{◌≡◌, ℕ, Result, Ok, Err, refl, ap, sym, subst}
use Rattle.std.specs.Prelude.{IsErrAnd, IfErr}
use Rattle.gix_revwalk.specs.Faults.{count_after}
use Rattle.gix_revwalk.specs.Graph.{Graphed}
use Rattle.gix_revwalk.specs.History.{History}
use Rattle.gix_revwalk.specs.declared.graph.commit.Commit.{Commit}
use Rattle.gix_revwalk.proofs.GraphAfters.{graph_as}
use Rattle.gix_merge_base.specs.AfterCall.{AfterCall}
use Rattle.gix_merge_base.specs.Refusals.{is_source_fault, HasInsertText}
use Rattle.gix_merge_base.specs.declared.merge_base.flags.Flags.{Flags}
use Rattle.gix_merge_base.specs.declared.merge_base.error.Error.{Error}

residual_is : {T : Type 0} (r : Result T Error) (e : Error) → IsErrAnd r (λ x. x ≡ e) → r ≡ Err e
residual_is (Ok x) e is = absurd is
residual_is (Err x) e is = ap Err is

-- the graph after it, where it is so after the refusal
pub after_err : {S A T U : Type 0} {history : S → History} {faults : S → ℕ} (a b : Graphed S (Commit Flags A)) (r : Result T Error) (e : Error)
    → IsErrAnd r (λ x. x ≡ e) → AfterCall {T = U} history faults a b (Err e) → AfterCall history faults a b r
after_err {T = T} {U = U} {history = history} {faults = faults} a b r e is p =
    let given : Result U Error = Err e in
    let handed : Result T Error = Err e in
    subst (AfterCall history faults a b) (sym (residual_is r e is)) (record { graph = graph_as a b given handed refl p.graph; cause = p.cause })

-- its count of faults, and its cause
pub count_err : {T : Type 0} (r : Result T Error) (e : Error) (n m : ℕ) → IsErrAnd r (λ x. x ≡ e) → n ≡ count_after (is_source_fault {T = Unit {0}} (Err e)) m → n ≡ count_after (is_source_fault r) m
count_err r e n m is k = subst (λ z. n ≡ count_after (is_source_fault z) m) (sym (residual_is r e is)) k

pub cause_err : {T : Type 0} (r : Result T Error) (e : Error) → IsErrAnd r (λ x. x ≡ e) → HasInsertText e → IfErr r HasInsertText
cause_err r e is k = subst (λ z. IfErr z HasInsertText) (sym (residual_is r e is)) k
