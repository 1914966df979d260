-- What authentic histories have in common.
use Rattle.std.proofs.Common.{◌≡◌, ℕ, List, [], ◌∷◌, cond, Option, Some, None, is_some, IsTrue, true, false, ◌⊎◌, inl, inr, refl, sym, ap, ◌∙◌, subst}
use Rattle.std.proofs.lemmas.Slice.Eq.{bytes_eq-Decides}
use Rattle.std.specs.Str.{bytes_eq}
use Rattle.gix_base.specs.declared.hash.ObjectId.{ObjectId}
use Rattle.gix_revwalk.specs.History.{History, Entry, Has, IsAncestor, entry_at, is_one_of, parents_in, same_id}
use Rattle.gix_revwalk.specs.History.IsAncestor.{itself, further}
use Rattle.gix_object.specs.Authentic.{Contents, IsAuthentic, AreAuthentic, IsClosed, HaveCollision, Agree, ReachesTheSame}
use Rattle.gix_revwalk.proofs.Ids.{same_id-true}
use Rattle.gix_object.proofs.OneCommit.{one-commit}

found : (o : Option Entry) → IsTrue (is_some o) → (e : Entry) × (o ≡ Some e)
found None t = let wrong : false ≡ true = t in cc
found (Some e) t = (e, refl)

-- Equal contents under one id are one commit.
same-commit : (content other : List ℕ) (id : ObjectId) (a b : Entry) → IsAuthentic content id a → IsAuthentic other id b → content ≡ other → b ≡ a
same-commit content other id a b is is' e =
    let P : List ℕ → Type 0 = λ c. IsAuthentic c id b in
    let says = subst P (sym e) is' in
    let same = one-commit content b.parents a.parents b.time a.time says.says is.says in
    let parents = same.0 in
    let time = same.1 in
    let generation = says.no_generation ∙ sym is.no_generation in
    λ i. record { parents = parents i; time = time i; generation = generation i }

module _ (contents others : Contents) (h k : History) (ours : AreAuthentic contents h) (theirs : AreAuthentic others k) where
  -- Both histories have c.
  same-here : (c : ObjectId) → Has h c → Has k c → (entry_at k c ≡ entry_at h c) ⊎ HaveCollision contents others
  same-here c in-h in-k =
      let a = found (entry_at h c) in-h in
      let b = found (entry_at k c) in-k in
      let first = ours c a.0 a.1 in
      let second = theirs c b.0 b.1 in
      elim (bytes_eq (contents c) (others c)) as (λ t. bytes_eq (contents c) (others c) ≡ t → (entry_at k c ≡ entry_at h c) ⊎ HaveCollision contents others) [
        | true ↦ λ e. inl (b.1 ∙ ap Some (same-commit (contents c) (others c) c a.0 b.0 first second ((bytes_eq-Decides (contents c) (others c)).0 e)) ∙ sym a.1)
        | false ↦ λ e. inr (
          c,
          record {
            differ = λ same. let t = (bytes_eq-Decides (contents c) (others c)).1 same in let wrong : false ≡ true = sym e ∙ t in cc;
            first = first.named;
            second = second.named;
          },
        )
      ] refl

  abbrev Same : ObjectId → Type 0
  Same id = Has h id → Has k id → entry_at k id ≡ entry_at h id

  no-longer : {A : Type 0} (o : Option Entry) → is_some o ≡ false → IsTrue (is_some o) → A
  no-longer o no' t = let wrong : true ≡ false = sym t ∙ no' in cc

  -- By cases of whether both histories have the id.
  same-or : (id : ObjectId) → Same id ⊎ HaveCollision contents others
  same-or id =
      elim (is_some (entry_at h id)) as (λ b. is_some (entry_at h id) ≡ b → Same id ⊎ HaveCollision contents others) [
        | true ↦ λ ours'. elim (is_some (entry_at k id)) as (λ b. is_some (entry_at k id) ≡ b → Same id ⊎ HaveCollision contents others) [
          | true ↦ λ theirs'. elim (same-here id ours' theirs') [
            | inl same ↦ inl (λ a b. same)
            | inr collide ↦ inr collide
          ]
          | false ↦ λ no'. inl (λ a b. no-longer (entry_at k id) no' b)
        ] refl
        | false ↦ λ no'. inl (λ a b. no-longer (entry_at h id) no' a)
      ] refl

  -- All ids of some commits.
  all-or : (es : History) → ((id : ObjectId) → IsTrue (is_some (entry_at es id)) → Same id) ⊎ HaveCollision contents others
  all-or [] = inl (λ id has. let wrong : false ≡ true = has in cc)
  all-or (e ∷ es) =
      elim (same-or e.0) [
        | inl first ↦ elim (all-or es) [
          | inl rest ↦ inl (λ id has. one-of id e es first rest has)
          | inr collide ↦ inr collide
        ]
        | inr collide ↦ inr collide
      ]
    where
      one-of : (id : ObjectId) (x : ObjectId × Entry) (xs : History) → Same x.0 → ((q : ObjectId) → IsTrue (is_some (entry_at xs q)) → Same q) → IsTrue (is_some (entry_at (x ∷ xs) id)) → Same id
      one-of id x xs first rest has =
          elim (same_id id x.0) as (λ b. same_id id x.0 ≡ b → IsTrue (is_some (cond b (Some x.1) (entry_at xs id))) → Same id) [
            | true ↦ λ e t. let P : ObjectId → Type 0 = λ q. Same q in subst P (sym (same_id-true id x.0 e)) first
            | false ↦ λ e t. rest id t
          ] refl has

  pub agree-or : Agree h k ⊎ HaveCollision contents others
  agree-or =
      elim (all-or h) [
        | inl each ↦ inl (λ id in-h in-k. each id in-h in-h in-k)
        | inr collide ↦ inr collide
      ]

-- What a tip reaches, edge by edge.
module _ (h k : History) (agree : Agree h k) (closed : IsClosed k) (tip : ObjectId) (has : Has k tip) where
  walk : (c : ObjectId) → IsAncestor h tip c → IsAncestor k tip c × Has k c × (entry_at k c ≡ entry_at h c)
  walk c (itself here) = (itself has, has, agree tip here has)
  walk c (further b c' p edge) =
      let before = walk b p in
      let P : Option Entry → Type 0 = λ o. IsTrue (is_one_of (parents_in o) c) in
      let parent = subst P (sym before.2) edge.0 in
      let there = closed b c parent in
      (further b c before.0 (parent, there), there, agree c edge.1 there)

  pub reaches-same : (c : ObjectId) → IsAncestor h tip c → IsAncestor k tip c × (entry_at k c ≡ entry_at h c)
  reaches-same c p = let w = walk c p in (w.0, w.2)

pub determined : (contents others : Contents) (h k : History) → AreAuthentic contents h → AreAuthentic others k → IsClosed k
    → ((tip : ObjectId) → Has k tip → ReachesTheSame h k tip) ⊎ HaveCollision contents others
determined contents others h k ours theirs closed =
    elim (agree-or contents others h k ours theirs) [
      | inl agree ↦ inl (λ tip has. reaches-same h k agree closed tip has)
      | inr collide ↦ inr collide
    ]
