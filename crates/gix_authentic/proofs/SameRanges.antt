-- Ranges in two histories that agree and are closed.
use Rattle.std.proofs.Common.{ℕ, List}
use Rattle.gix_base.specs.declared.hash.ObjectId.{ObjectId}
use Rattle.gix_revwalk.specs.History.{History, IsBeyond}
use Rattle.gix_object.specs.Authentic.{IsClosed, Agree}
use Rattle.gix_authentic.specs.Determined.{BothHave, ListsBeyond, CountsBeyond}
use Rattle.gix_authentic.proofs.Same.{turned, swapped, of-one}

module _ (h k : History) (agree : Agree h k) (closed-h : IsClosed h) (closed-k : IsClosed k) (shown hidden : List ObjectId)
    (both-shown : BothHave h k shown) (both-hidden : BothHave h k hidden) where
  pub beyond-over : (c : ObjectId) → IsBeyond h hidden shown c → IsBeyond k hidden shown c
  beyond-over c is = (
    of-one h k agree closed-h closed-k shown c both-shown is.0,
    λ reached. is.1 (of-one k h (turned h k agree) closed-k closed-h hidden c (swapped h k hidden both-hidden) reached),
  )

module _ (h k : History) (agree : Agree h k) (closed-h : IsClosed h) (closed-k : IsClosed k) (shown hidden : List ObjectId)
    (both-shown : BothHave h k shown) (both-hidden : BothHave h k hidden) where
  pub beyond-back : (c : ObjectId) → IsBeyond k hidden shown c → IsBeyond h hidden shown c
  beyond-back = beyond-over k h (turned h k agree) closed-k closed-h shown hidden (swapped h k shown both-shown) (swapped h k hidden both-hidden)

  pub lists-over : (ids : List ObjectId) → ListsBeyond h shown hidden ids → ListsBeyond k shown hidden ids
  lists-over ids is = record {
    beyond = λ c. (
      λ listed. beyond-over h k agree closed-h closed-k shown hidden both-shown both-hidden c ((is.beyond c).0 listed),
      λ reached. (is.beyond c).1 (beyond-back c reached),
    );
    rising = is.rising;
  }

  pub counts-over : (n : ℕ) → CountsBeyond h shown hidden n → CountsBeyond k shown hidden n
  counts-over n is = (is.0, lists-over is.0 is.1, is.2)
