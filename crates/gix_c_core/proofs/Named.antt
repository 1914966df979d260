-- A description depends on the names by look-up alone.
use Rattle.std.proofs.Common.{◌≡◌, ℕ, true, false, cond, refl, ap, sym, subst, ◌∙◌, List, [], ◌∷◌, ◌++◌, Option, Some, None, Bool, is_some, IsTrue, take, length, get_or, nat_eq, ◌+◌, ◌<◌, ◌⊎◌, inl, inr, add-one}
use Rattle.std.specs.Prelude.{MatchOption, MatchBool, ◌||◌, not}
use Rattle.std.specs.Map.{lookup}
use Rattle.std.proofs.Math.Seq.{take-suc}
use Rattle.std.proofs.lemmas.List.{map-append}
use Rattle.gix_base.specs.declared.hash.ObjectId.{ObjectId}
use Rattle.gix_revwalk.specs.History.{History, Has, same_id}
use Rattle.gix_revwalk.specs.Sizes.{is_empty}
use Rattle.gix_revwalk.proofs.Ids.{same_id-itself}
use Rattle.gix_describe.specs.DescribeRefusals.{NeedsWalk}
use Rattle.gix_describe.specs.Described.{Names, Description, name_at, named, unnamed, IsNamedAncestor, IsLeastAhead, IsNamedBy, DescribesUnnamed, DescribesNamed, nothing_to_find, IsDescribed}
use Rattle.std.specs.Prelude.{min}
use Rattle.std.specs.Option.{option_map}
use Rattle.std.specs.Cow.{cow_slice_items}
use Rattle.std.specs.declared.borrow.CowSlice.{CowSlice}
use Rattle.gix_revwalk.specs.Followed.{followed}
use Rattle.gix_revwalk.proofs.Ids.{same_id-true}
use Rattle.gix_revwalk.proofs.Places.{same_id-sym}
use Rattle.gix_describe.specs.Lent.{NameMap, options_by, outcomes_by}
use Rattle.gix_describe.specs.Outcomes.{names_of, description_of, Describes}
use Rattle.gix_describe.specs.declared.describe.nearest.Nearest.{Nearest}
use Rattle.gix_describe.specs.declared.describe.options.Manner.{Manner}
use Rattle.gix_describe.proofs.NamesFound.{name_at-names_of, named_from, unnamed_from}
use Rattle.gix_c_core.specs.Descriptions.{first_of, given_pair, names_given, named_by, AreNames, IsDescribedSo, IsManner, NeedsWalkSo}
use Rattle.gix_c_core.specs.declared.describe.How.{How}
use Rattle.gix_c_core.specs.declared.describe.Name.{Name}

looked-append : (xs ys : Names) (q : ObjectId) → name_at (xs ++ ys) q ≡ first_of (name_at xs q) (name_at ys q)
looked-append [] ys q = refl
looked-append (x ∷ xs) ys q =
    elim (same_id q x.0) as (λ b. cond b (Some x.1) (lookup (same_id q) (xs ++ ys)) ≡ first_of (cond b (Some x.1) (lookup (same_id q) xs)) (lookup (same_id q) ys)) [
      | true ↦ refl
      | false ↦ looked-append xs ys q
    ]

-- one name more
given-next : (ns : List Name) (i : ℕ) (d : Name) (q : ObjectId) → i < length ns
    → name_at (names_given (take (i + 1) ns)) q ≡ first_of (name_at (names_given (take i ns)) q) (named_by (get_or ns i d) q)
given-next ns i d q lt =
    let e : take (i + 1) ns ≡ take i ns ++ (get_or ns i d ∷ []) = rw add-one (take-suc ns i d lt) in
    ap (λ l. name_at (names_given l) q) e ∙ ap (λ l. name_at l q) (map-append given_pair (take i ns) (get_or ns i d ∷ []))
    ∙ looked-append (names_given (take i ns)) (given_pair (get_or ns i d) ∷ []) q

pub given-step : (ns : List Name) (i : ℕ) (d : Name) (q : ObjectId) (a b : Option (List ℕ)) → i < length ns → a ≡ first_of b (named_by (get_or ns i d) q)
    → b ≡ name_at (names_given (take i ns)) q → a ≡ name_at (names_given (take (i + 1) ns)) q
given-step ns i d q a b lt e is = e ∙ ap (λ o. first_of o (named_by (get_or ns i d) q)) is ∙ sym (given-next ns i d q lt)

empty-same : (m n : Names) → ((q : ObjectId) → name_at m q ≡ name_at n q) → is_empty m ≡ is_empty n
empty-same [] [] same = refl
empty-same [] (y ∷ n) same =
    let e : None ≡ cond (same_id y.0 y.0) (Some y.1) (lookup (same_id y.0) n) = same y.0 in
    let f : None ≡ Some y.1 = e ∙ ap (λ b. cond b (Some y.1) (lookup (same_id y.0) n)) (same_id-itself y.0) in
    cc
empty-same (x ∷ m) [] same =
    let e : cond (same_id x.0 x.0) (Some x.1) (lookup (same_id x.0) m) ≡ None = same x.0 in
    let f : Some x.1 ≡ None = sym (ap (λ b. cond b (Some x.1) (lookup (same_id x.0) m)) (same_id-itself x.0)) ∙ e in
    cc
empty-same (x ∷ m) (y ∷ n) same = refl

module _ (h : History) (s : ObjectId) (m n : Names) (same : (q : ObjectId) → name_at m q ≡ name_at n q) where
  to : (c : ObjectId) → IsNamedAncestor h s m c → IsNamedAncestor h s n c
  to c p = (p.0, (p.1.0, sym (same c) ∙ p.1.1))

  back : (c : ObjectId) → IsNamedAncestor h s n c → IsNamedAncestor h s m c
  back c p = (p.0, (p.1.0, same c ∙ p.1.1))

  least-by : (depth : ℕ) → IsLeastAhead h s m depth → IsLeastAhead h s n depth
  least-by depth p = ((p.0.0, to p.0.0 p.0.1, p.0.2), (λ u k of size. p.1 u k (back u of) size))

  named-by : (cap : ℕ) (t : ObjectId) (name : List ℕ) (depth seen : ℕ) → IsNamedBy h s m cap t name depth seen → IsNamedBy h s n cap t name depth seen
  named-by cap t name depth seen p = record {
    t_reached = p.t_reached;
    t_named = sym (same t) ∙ p.t_named;
    all = p.all;
    all_is = p.all_is;
    ahead = p.ahead;
    ahead_is = p.ahead_is;
    low = p.low;
    high = p.high;
    deeper = p.deeper;
    seen_most = p.seen_most;
    exact = λ older few. least-by depth (p.exact older (λ xs apart each. few xs apart (λ c one. to c (each c one))));
  }

  found-by : (cap : ℕ) (fallback : Bool) (r : Option Description)
      → Has h s × (DescribesUnnamed h s m fallback r ⊎ DescribesNamed h s m cap r) → Has h s × (DescribesUnnamed h s n fallback r ⊎ DescribesNamed h s n cap r)
  found-by cap fallback r (has, inl p) = (has, inl ((λ c a. sym (same c) ∙ p.0 c a), p.1, p.2, p.3))
  found-by cap fallback r (has, inr p) = (has, inr (p.0, p.1, p.2, p.3, p.4, named-by cap p.0 p.1 p.2 p.3 p.5))

  pub described-by : (cap : ℕ) (fallback : Bool) (r : Option Description) → IsDescribed h s m cap fallback r → IsDescribed h s n cap fallback r
  described-by cap fallback r p =
      let Found = λ (names : Names). Has h s × (DescribesUnnamed h s names fallback r ⊎ DescribesNamed h s names cap r) in
      let walked : MatchBool (nothing_to_find m cap) (r ≡ unnamed fallback 0) (Found m) → MatchBool (nothing_to_find n cap) (r ≡ unnamed fallback 0) (Found n) =
      λ w. subst (λ e. MatchBool (nat_eq cap 0 || e) (r ≡ unnamed fallback 0) (Found n)) (empty-same m n same)
      (elim (nat_eq cap 0 || is_empty m) as (λ x. MatchBool x (r ≡ unnamed fallback 0) (Found m) → MatchBool x (r ≡ unnamed fallback 0) (Found n)) [
        | true ↦ λ idle. idle
        | false ↦ λ found. found-by cap fallback r found
      ] w) in
      subst (λ o. MatchOption o (MatchBool (nothing_to_find n cap) (r ≡ unnamed fallback 0) (Found n)) (λ name. r ≡ Some (named name 0 0))) (same s)
      (elim (name_at m s) as (λ o. MatchOption o (MatchBool (nothing_to_find m cap) (r ≡ unnamed fallback 0) (Found m)) (λ name. r ≡ Some (named name 0 0))
      → MatchOption o (MatchBool (nothing_to_find n cap) (r ≡ unnamed fallback 0) (Found n)) (λ name. r ≡ Some (named name 0 0))) [
        | None ↦ walked
        | Some name ↦ λ e. e
      ] p)

first-none : {X : Type 0} (o : Option X) → first_of o None ≡ o
first-none None = refl
first-none (Some x) = refl

-- a name put into the map under an id that has none
pub added-name : {Z : Type 0} (es fs : List (ObjectId × CowSlice ℕ Z)) (k : ObjectId) (v : CowSlice ℕ Z) → is_some (lookup (same_id k) es) ≡ false
    → ((q : ObjectId) → lookup (same_id q) fs ≡ cond (same_id k q) (Some v) (lookup (same_id q) es))
    → (q : ObjectId) → name_at (names_of fs) q ≡ first_of (name_at (names_of es) q) (cond (same_id q k) (Some (cow_slice_items v)) None)
added-name {Z} es fs k v absent up q =
    name_at-names_of fs q ∙ ap (option_map cow_slice_items) (up q)
    ∙ elim (same_id k q) as (λ b. same_id k q ≡ b → option_map cow_slice_items (cond b (Some v) (lookup (same_id q) es)) ≡ first_of (name_at (names_of es) q) (cond (same_id q k) (Some (cow_slice_items v)) None)) [
      | true ↦ λ is.
          let here : name_at (names_of es) q ≡ None = unnamed_from es q (ap (λ i. is_some (lookup (same_id i) es)) (sym (same_id-true k q is)) ∙ absent) in
          let other : same_id q k ≡ true = same_id-sym q k ∙ is in
          rw (here, other) refl
      | false ↦ λ apart.
          let other : same_id q k ≡ false = same_id-sym q k ∙ apart in
          rw other (sym (name_at-names_of es q) ∙ sym (first-none (name_at (names_of es) q)))
    ] refl

-- a name under an id that has one does not count
pub known-name : {Z : Type 0} (es : List (ObjectId × CowSlice ℕ Z)) (k : ObjectId) (text : List ℕ) → is_some (lookup (same_id k) es) ≡ true
    → (q : ObjectId) → name_at (names_of es) q ≡ first_of (name_at (names_of es) q) (cond (same_id q k) (Some text) None)
known-name {Z} es k text there q =
    elim (same_id q k) as (λ b. same_id q k ≡ b → name_at (names_of es) q ≡ first_of (name_at (names_of es) q) (cond b (Some text) None)) [
      | true ↦ λ is.
          let has : is_some (lookup (same_id q) es) ≡ true = ap (λ i. is_some (lookup (same_id i) es)) (same_id-true q k is) ∙ there in
          some (name_at (names_of es) q) (named_from es q has).0 (named_from es q has).1
      | false ↦ λ apart. sym (first-none (name_at (names_of es) q))
    ] refl
  where
    some : (o : Option (List ℕ)) (name : List ℕ) → o ≡ Some name → o ≡ first_of o (Some text)
    some None name e = cc
    some (Some x) name e = refl

-- what the library says by a map of names and a manner, by what is handed in
pub described-so : {A : Type 0} (h k : History) (s : ObjectId) (names : Names) (how : How) (map : NameMap A) (m : Manner) (answer : Option (Nearest A)) (r : Option Description)
    → h ≡ k → AreNames map.entries names → IsManner how m → option_map description_of (outcomes_by map answer) ≡ r
    → Describes h s (options_by map m) (outcomes_by map answer) → IsDescribedSo k s names how r
described-so h k s names how map m answer r same are as-told is p =
    let ns = names_of map.entries in
    let p1 : IsDescribed (followed m.first_parent h) s ns (min m.max_candidates 32) m.fallback_to_oid r =
    subst (λ a. IsDescribed (followed m.first_parent h) s ns (min m.max_candidates 32) m.fallback_to_oid a) is p in
    let p2 = subst (λ b. IsDescribed (followed m.first_parent h) s ns (min m.max_candidates 32) b r) as-told.fallback p1 in
    let p3 = subst (λ c. IsDescribed (followed m.first_parent h) s ns (min c 32) how.fallback_to_id r) as-told.candidates p2 in
    let p4 = subst (λ b. IsDescribed (followed b h) s ns (min how.max_candidates 32) how.fallback_to_id r) as-told.first_parent p3 in
    described-by (followed how.first_parent k) s ns names are (min how.max_candidates 32) how.fallback_to_id r
    (subst (λ g. IsDescribed (followed how.first_parent g) s ns (min how.max_candidates 32) how.fallback_to_id r) same p4)

-- a walk that the library needs by a map of names and a manner is one by what is handed in
pub walk-so : {A : Type 0} (s : ObjectId) (names : Names) (how : How) (map : NameMap A) (m : Manner) → AreNames map.entries names → IsManner how m
    → NeedsWalk s (names_of map.entries) (min m.max_candidates 32) → NeedsWalkSo s names how
walk-so s names how map m are as-told walk =
    let ns = names_of map.entries in
    let w = subst (λ c. NeedsWalk s ns (min c 32)) as-told.candidates walk in
    (sym (are s) ∙ w.0, subst (λ e. IsTrue (not (nat_eq (min how.max_candidates 32) 0 || e))) (empty-same ns names are) w.1)
