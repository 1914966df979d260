-- Questions to a source, one after another.
use Rattle.std.proofs.Common.{◌≡◌, ℕ, false, sym, ap, ◌∙◌, Option, Some, None, Result, Err}
use Rattle.std.specs.Prelude.{IfSome, IsErrAnd}
use Rattle.std.proofs.lemmas.Result.{err_from_is_err_and}
use Rattle.gix_base.specs.declared.error.message.Message.{Message}
use Rattle.gix_revwalk.specs.History.{History}
use Rattle.gix_revwalk.specs.Faults.{count_after}
use Rattle.gix_describe.specs.Asks.{Asks}
use Rattle.gix_describe.specs.DescribeRefusals.{is_parents_fault, is_for_source, refusal}

-- what a `?` returns is the refusal that came
pub err_came : {T : Type 0} (r : Result T Message) (e : Message) → IsErrAnd r (λ x. x ≡ e) → r ≡ Err e
err_came r e is = let p = err_from_is_err_and r is in p.1 ∙ ap Err p.2

pub refusal_came : {T : Type 0} (r : Result T Message) (e : Message) → IsErrAnd r (λ x. x ≡ e) → refusal r ≡ Some e
refusal_came r e is = ap refusal (err_came r e is)

module _ {S : Type 0} (history : S → History) (faults : S → ℕ) where
  -- a cause is one for more
  pub asks_more : (C D : Message → Type 0) (a b : S) (r : Option Message) → ((e : Message) → D e → C e) → Asks history faults D a b r → Asks history faults C a b r
  asks_more C D a b r more asked = record { same_history = asked.same_history; count = asked.count; cause = by r asked.cause }
    where
      by : (r : Option Message) → IfSome r D → IfSome r C
      by None k = k
      by (Some e) k = more e k

  -- an answer has no cause
  pub asks_answered : (C D : Message → Type 0) (a b : S) → Asks history faults D a b None → Asks history faults C a b None
  asks_answered C D a b asked = record { same_history = asked.same_history; count = asked.count; cause = tt }

  -- after questions that were answered, one more
  pub asks_on : (C D : Message → Type 0) (a b c : S) (r : Option Message) → Asks history faults D a b None → Asks history faults C b c r → Asks history faults C a c r
  asks_on C D a b c r first next = record {
    same_history = next.same_history ∙ first.same_history;
    count = next.count ∙ ap (count_after (is_for_source r)) first.count;
    cause = next.cause;
  }

  -- a refusal that the source has no part in
  pub asks_refused : (C D : Message → Type 0) (a b : S) (e : Message) → is_parents_fault e ≡ false → C e
      → Asks history faults D a b None → Asks history faults C a b (Some e)
  asks_refused C D a b e other cause asked = record {
    same_history = asked.same_history;
    count = asked.count ∙ sym (ap (λ x. count_after x (faults a)) other);
    cause = cause;
  }

  -- nothing is asked
  pub asks_nothing : (C : Message → Type 0) (a b : S) → b ≡ a → Asks history faults C a b None
  asks_nothing C a b is = record { same_history = ap history is; count = ap faults is; cause = tt }
