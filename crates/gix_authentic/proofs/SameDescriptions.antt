-- Descriptions in two histories that agree and are closed.
use Rattle.std.proofs.Common.{◌≡◌, ℕ, ℤ, ◌<ℤ◌, List, Bool, ◌⊎◌, inl, inr, Option, Some, None, sym, ap, subst}
use Rattle.std.specs.Prelude.{MatchBool, MatchOption}
use Rattle.gix_base.specs.declared.hash.ObjectId.{ObjectId}
use Rattle.gix_revwalk.specs.History.{History, Has, IsAncestor, time_in, time_of}
use Rattle.gix_revwalk.specs.Sizes.{HasSize, AtMost}
use Rattle.gix_describe.specs.Ahead.{IsAheadOf, IsOlder, IsFallingEdge, IsPath, IsFalling, ParentsAreOlder}
use Rattle.gix_describe.specs.Ahead.IsPath.{stay, further}
use Rattle.gix_describe.specs.Described.{Names, Description, IsNamedAncestor, IsLeastAhead, IsNamedBy, DescribesUnnamed, DescribesNamed, IsDescribed, name_at, nothing_to_find, unnamed, named}
use Rattle.gix_object.specs.Authentic.{IsClosed, Agree}
use Rattle.gix_authentic.proofs.Same.{ends, turned, by, go, back, edge}

-- Two sets with the same members have the same size.
sized : (S T : ObjectId → Type 0) → ((c : ObjectId) → S c → T c) → ((c : ObjectId) → T c → S c) → (n : ℕ) → HasSize S n → HasSize T n
sized S T on off n is = (is.0, (is.1.0, λ c. (λ t. on c ((is.1.1 c).0 t), λ in-t. (is.1.1 c).1 (off c in-t))), is.2)

-- A set has at most as many members as one that has all its members.
at-most : (S T : ObjectId → Type 0) → ((c : ObjectId) → S c → T c) → (n : ℕ) → AtMost n T → AtMost n S
at-most S T on n most xs distinct members = most xs distinct (λ c t. on c (members c t))

module _ (h k : History) (agree : Agree h k) (closed-h : IsClosed h) (closed-k : IsClosed k) where
  time : (c : ObjectId) → Has h c → Has k c → time_of k c ≡ time_of h c
  time c in-h in-k = ap time_in (agree c in-h in-k)

  pub older : (a b : ObjectId) → Has h a → Has k a → Has h b → Has k b → IsOlder h b a → IsOlder k b a
  older a b in-h in-k in-h' in-k' is =
      let P : ℤ → Type 0 = λ t. t <ℤ time_of h a in
      let Q : ℤ → Type 0 = λ t. time_of k b <ℤ t in
      subst Q (sym (time a in-h in-k)) (subst P (sym (time b in-h' in-k')) is)

  falling-edge : (a b : ObjectId) → Has h a → Has k a → IsFallingEdge h a b → IsFallingEdge k a b
  falling-edge a b in-h in-k is =
      let onward = edge h k agree closed-h closed-k a b in-h in-k is.0 in
      (onward, older a b in-h in-k is.0.1 onward.1 is.1)

  path : (a c : ObjectId) → Has h a → Has k a → IsPath (IsFallingEdge h) a c → IsPath (IsFallingEdge k) a c × Has h c × Has k c
  path a c in-h in-k stay = (stay, in-h, in-k)
  path a c in-h in-k (further b d p e) =
      let before = path a b in-h in-k p in
      let onward = falling-edge b d before.1 before.2 e in
      (further b d before.0 onward, e.0.1, onward.0.1)

  pub falling : (s t c : ObjectId) → Has h s → Has k s → IsFalling h s t c → IsFalling k s t c
  falling s t c in-h in-k is =
      let before = path s t in-h in-k is.1 in
      (in-k, before.0, (path t c before.1 before.2 is.2).0)

  pub ahead : (s t c : ObjectId) → Has k s → Has h t → IsAheadOf h s t c → IsAheadOf k s t c
  ahead s t c in-k in-h is =
      (go h k agree closed-h closed-k s c in-k is.0, λ p. is.1 (back h k agree closed-h closed-k t c in-h p))

  pub named-ancestor : (s : ObjectId) (names : Names) (c : ObjectId) → Has k s → IsNamedAncestor h s names c → IsNamedAncestor k s names c
  named-ancestor s names c in-k is = (go h k agree closed-h closed-k s c in-k is.0, is.1)

  pub parents-older : (s : ObjectId) → Has h s → Has k s → ParentsAreOlder h s → ParentsAreOlder k s
  parents-older s in-h in-k are a b reached e =
      let in-k' = ends k s a reached in
      let reached' = back h k agree closed-h closed-k s a in-h reached in
      let in-h' = ends h s a reached' in
      let e' = edge k h (turned h k agree) closed-k closed-h a b in-k' in-h' e in
      older a b in-h' in-k' e'.1 e.1 (are a b reached' e')

module _ (h k : History) (agree : Agree h k) (closed-h : IsClosed h) (closed-k : IsClosed k) (s : ObjectId) (in-h : Has h s) (in-k : Has k s) where
  on : (c : ObjectId) → IsAncestor h s c → IsAncestor k s c
  on c p = go h k agree closed-h closed-k s c in-k p

  off : (c : ObjectId) → IsAncestor k s c → IsAncestor h s c
  off c p = back h k agree closed-h closed-k s c in-h p

  reached : (n : ℕ) → HasSize (IsAncestor h s) n → HasSize (IsAncestor k s) n
  reached n is = sized (IsAncestor h s) (IsAncestor k s) on off n is

  pub ahead-size : (t : ObjectId) → Has h t → Has k t → (n : ℕ) → HasSize (IsAheadOf h s t) n → HasSize (IsAheadOf k s t) n
  ahead-size t has has' n is =
      sized (IsAheadOf h s t) (IsAheadOf k s t) (λ c. ahead h k agree closed-h closed-k s t c in-k has)
      (λ c. ahead k h (turned h k agree) closed-k closed-h s t c in-h has') n is

  pub falling-size : (t : ObjectId) (n : ℕ) → HasSize (IsFalling h s t) n → HasSize (IsFalling k s t) n
  falling-size t n is =
      sized (IsFalling h s t) (IsFalling k s t) (λ c. falling h k agree closed-h closed-k s t c in-h in-k)
      (λ c. falling k h (turned h k agree) closed-k closed-h s t c in-k in-h) n is

  pub most-named : (names : Names) (cap : ℕ) → AtMost cap (IsNamedAncestor k s names) → AtMost cap (IsNamedAncestor h s names)
  most-named names cap most =
      at-most (IsNamedAncestor h s names) (IsNamedAncestor k s names) (λ c. named-ancestor h k agree closed-h closed-k s names c in-k) cap most

module _ (h k : History) (agree : Agree h k) (closed-h : IsClosed h) (closed-k : IsClosed k) (s : ObjectId) (in-h : Has h s) (in-k : Has k s) where
  least : (names : Names) (depth : ℕ) → IsLeastAhead h s names depth → IsLeastAhead k s names depth
  least names depth is =
      let u = is.0.0 in
      let here = is.0.1 in
      let there = named-ancestor h k agree closed-h closed-k s names u in-k here in (
        (u, there, ahead-size h k agree closed-h closed-k s in-h in-k u (ends h s u here.0) (ends k s u there.0) depth is.0.2),
        λ v n other size.
            let other' = named-ancestor k h (turned h k agree) closed-k closed-h s names v in-h other in
            is.1 v n other' (ahead-size k h (turned h k agree) closed-k closed-h s in-k in-h v (ends k s v other.0) (ends h s v other'.0) n size),
      )

  named-by : (names : Names) (cap : ℕ) (t : ObjectId) (name : List ℕ) (depth seen : ℕ) → IsNamedBy h s names cap t name depth seen → IsNamedBy k s names cap t name depth seen
  named-by names cap t name depth seen is =
      let there = on h k agree closed-h closed-k s in-h in-k t is.t_reached in
      let has = ends h s t is.t_reached in
      let has' = ends k s t there in
      record {
        t_reached = there;
        t_named = is.t_named;
        all = is.all;
        all_is = reached h k agree closed-h closed-k s in-h in-k is.all is.all_is;
        ahead = is.ahead;
        ahead_is = ahead-size h k agree closed-h closed-k s in-h in-k t has has' is.ahead is.ahead_is;
        low = is.low;
        high = λ n size. is.high n (falling-size k h (turned h k agree) closed-k closed-h s in-k in-h t n size);
        deeper = is.deeper;
        seen_most = is.seen_most;
        exact = λ are most.
            least names depth (is.exact (parents-older k h (turned h k agree) closed-k closed-h s in-k in-h are) (most-named h k agree closed-h closed-k s in-h in-k names cap most));
      }

  unnamed-over : (names : Names) (fallback : Bool) (r : Option Description) → DescribesUnnamed h s names fallback r → DescribesUnnamed k s names fallback r
  unnamed-over names fallback r is =
      (λ c p. is.0 c (off h k agree closed-h closed-k s in-h in-k c p), is.1, reached h k agree closed-h closed-k s in-h in-k is.1 is.2, is.3)

  named-over : (names : Names) (cap : ℕ) (r : Option Description) → DescribesNamed h s names cap r → DescribesNamed k s names cap r
  named-over names cap r is = (is.0, is.1, is.2, is.3, is.4, named-by names cap is.0 is.1 is.2 is.3 is.5)

  by-option : {A : Type 0} (o : Option A) (P P' : Type 0) (Q : A → Type 0) → (P → P') → MatchOption o P Q → MatchOption o P' Q
  by-option None P P' Q on is = on is
  by-option (Some x) P P' Q on is = is

  walked : (names : Names) (cap : ℕ) (fallback : Bool) (r : Option Description)
      → Has h s × (DescribesUnnamed h s names fallback r ⊎ DescribesNamed h s names cap r) → Has k s × (DescribesUnnamed k s names fallback r ⊎ DescribesNamed k s names cap r)
  walked names cap fallback r is = (
    in-k,
    elim is.1 [
      | inl none ↦ inl (unnamed-over names fallback r none)
      | inr some ↦ inr (named-over names cap r some)
    ],
  )

  pub described-over : (names : Names) (cap : ℕ) (fallback : Bool) (r : Option Description) → IsDescribed h s names cap fallback r → IsDescribed k s names cap fallback r
  described-over names cap fallback r is =
      by-option (name_at names s)
      (MatchBool (nothing_to_find names cap) (r ≡ unnamed fallback 0) (Has h s × (DescribesUnnamed h s names fallback r ⊎ DescribesNamed h s names cap r)))
      (MatchBool (nothing_to_find names cap) (r ≡ unnamed fallback 0) (Has k s × (DescribesUnnamed k s names fallback r ⊎ DescribesNamed k s names cap r)))
      (λ name. r ≡ Some (named name 0 0))
      (by (nothing_to_find names cap) (r ≡ unnamed fallback 0) (Has h s × (DescribesUnnamed h s names fallback r ⊎ DescribesNamed h s names cap r))
      (Has k s × (DescribesUnnamed k s names fallback r ⊎ DescribesNamed k s names cap r)) (walked names cap fallback r))
      is
