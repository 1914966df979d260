-- A history that gets one more commit, whose parents it has with lesser levels.
use Rattle.std.proofs.Common.{◌≡◌, ℕ, ◌-◌, ◌+◌, ◌^◌, ◌<◌, ◌≤◌, inl, inr, true, false, cond, Option, Some, None, is_some, IfSome, IsTrue, sym, ap, ◌∙◌, subst, arith, List, [], ◌∷◌, ◌++◌, take, length, get_or}
use Rattle.std.specs.List.{All}
use Rattle.std.specs.Map.{lookup}
use Rattle.std.specs.Option.{unwrap_or}
use Rattle.std.proofs.lemmas.List.Elements.{All-push}
use Rattle.gix_base.specs.declared.hash.ObjectId.{ObjectId}
use Rattle.gix_revwalk.specs.History.{History, Entry, Has, IsEdge, entry_at, same_id, is_one_of, parents_in, generation_in, generation_of}
use Rattle.gix_revwalk.proofs.Ids.{same_id-true, same_id-itself}
use Rattle.gix_revwalk.proofs.Inserted.{entry-stays}
use Rattle.gix_revwalk.proofs.Members.{one_of-take_cases, take_next}
use Rattle.gix_commitgraph.specs.FileLevels.{IsLevelled}
use Rattle.gix_history.specs.Origins.{IsCommitOf}
use Rattle.gix_history.specs.Levels.{IsLevelOf, AreCommits, AreLoaded, Keeps}
use Rattle.gix_history.specs.Waiting.{IsBelow, IsPending}
use Rattle.gix_history.specs.declared.loaded.Pending.{Pending}
use Rattle.gix_history.proofs.Grown.{by-id}

pub keeps-on : (a b c : History) → Keeps a b → Keeps b c → Keeps a c
keeps-on a b c f g = λ q has. g q (ap is_some (f q has) ∙ has) ∙ f q has

pub below-stays : (h more : History) → Keeps h more → (n : ℕ) (q : ObjectId) → IsBelow h n q → IsBelow more n q
below-stays h more g n q b = record {
  has = ap is_some (g q b.has) ∙ b.has;
  less = let e : generation_of more q ≡ generation_of h q = ap generation_in (g q b.has) in let l = b.less in omega arith;
}

pub pending-stays : {A : Type 0} (h more : History) → Keeps h more → (p : Pending A) → IsPending h p → IsPending more p
pending-stays h more g p is = record {
  within = is.within;
  below = λ q m. below-stays h more g p.level q (is.below q m);
  authentic = is.authentic;
}

pub all-pending-stay : {A : Type 0} (h more : History) → Keeps h more → (ps : List (Pending A)) → All (IsPending h) ps → All (IsPending more) ps
all-pending-stay h more g ps all = λ k d within. pending-stays h more g _ (all k d within)

-- One more parent is there.
pub settled-more : (h : History) (ps : List ObjectId) (i n m : ℕ) (d : ObjectId) → i < length ps
    → ((q : ObjectId) → IsTrue (is_one_of (take i ps) q) → IsBelow h n q)
    → Has h (get_or ps i d) → generation_of h (get_or ps i d) < m → n ≤ m
    → (q : ObjectId) → IsTrue (is_one_of (take (i + 1) ps) q) → IsBelow h m q
settled-more h ps i n m d within below has less more q member =
    elim (one_of-take_cases ps i d q within member) as (λ _. IsBelow h m q) [
      | inl old ↦ let b = below q old in let l = b.less in record { has = b.has; less = omega arith }
      | inr is ↦ let P : ObjectId → Type 0 = λ x. IsBelow h m x in subst P (sym is) (record { has = has; less = less })
    ]

-- A commit that was just read waits for all its parents.
pub opened : {A : Type 0} (h : History) (p : Pending A) → p.settled ≡ 0 → IsCommitOf p.id (record { parents = p.commit.parents.items; time = p.commit.time; generation = p.commit.generation }) → IsPending h p
opened h p none is = record {
  within = omega arith;
  below = λ q m. let wrong : false ≡ true = ap (λ n. is_one_of (take n p.commit.parents.items) q) (sym none) ∙ m in cc;
  authentic = is;
}

-- One more commit waits.
pub all-and-one : {A : Type 0} (h : History) (ps more : List (Pending A)) (p : Pending A) → more ≡ ps ++ (p ∷ []) → All (IsPending h) ps → IsPending h p → All (IsPending h) more
all-and-one h ps more p is all one =
    subst (λ xs. All (IsPending h) xs) (sym is) (All-push (IsPending h) ps p all one)

pub all-there : (h more : History) → Keeps h more → (tips : List ObjectId) (i : ℕ) (d : ObjectId) → i < length tips
    → All (Has h) (take i tips) → Has more (get_or tips i d) → All (Has more) (take (i + 1) tips)
all-there h more g tips i d within all has =
    let P : List ObjectId → Type 0 = λ xs. All (Has more) xs in
    subst P (sym (take_next tips i d within)) (All-push (Has more) (take i tips) (get_or tips i d) (λ k e w. ap is_some (g _ (all k e w)) ∙ all k e w) has)

pub level-stays : (h more : History) → Keeps h more → (q : ObjectId) (l : ℕ) → IsLevelOf h q l → IsLevelOf more q l
level-stays h more g q l is = record {
  has = ap is_some (g q is.has) ∙ is.has;
  is = ap generation_in (g q is.has) ∙ is.is;
  known = is.known;
}

-- What was noted, if anything, is the level.
pub level-found : (h : History) (levels : List (ObjectId × ℕ)) (q : ObjectId) (o : Option ℕ) → lookup (same_id q) levels ≡ o → AreLoaded h levels → IfSome o (IsLevelOf h q)
level-found h levels q None is are = tt
level-found h levels q (Some l) is are = are.noted q l is

-- Nothing is loaded.
pub empty-loaded : (h : History) (levels : List (ObjectId × ℕ)) → ((q : ObjectId) → entry_at h q ≡ None) → levels ≡ [] → AreLoaded h levels
empty-loaded h levels none nil = record {
  levelled = record {
    known = λ a has. let wrong : false ≡ true = ap is_some (sym (none a)) ∙ has in cc;
    closed = λ a b member. let wrong : false ≡ true = ap (λ o. is_one_of (parents_in o) b) (sym (none a)) ∙ member in cc;
    fall = λ a b edge. let wrong : false ≡ true = ap (λ o. is_one_of (parents_in o) b) (sym (none a)) ∙ edge.0 in cc;
  };
  authentic = λ q e found. let wrong : None ≡ Some e = sym (none q) ∙ found in cc;
  noted = λ q l found. let wrong : None ≡ Some l = ap (lookup (same_id q)) (sym nil) ∙ found in cc;
}

-- The levels are found as before.
pub levels-same : (h : History) (levels more : List (ObjectId × ℕ)) → ((q : ObjectId) → lookup (same_id q) more ≡ lookup (same_id q) levels) → AreLoaded h levels → AreLoaded h more
levels-same h levels more same are = record {
  levelled = are.levelled;
  authentic = are.authentic;
  noted = λ q l found. are.noted q l (sym (same q) ∙ found);
}

-- The level of k was noted.
pub level-noted : (h : History) (levels more : List (ObjectId × ℕ)) (k : ObjectId) (l : ℕ) → IsLevelOf h k l
    → ((q : ObjectId) → lookup (same_id q) more ≡ cond (same_id k q) (Some l) (lookup (same_id q) levels)) → AreLoaded h levels → AreLoaded h more
level-noted h levels more k l is note are = record {
  levelled = are.levelled;
  authentic = are.authentic;
  noted = λ q x found.
      by-id k (λ z. lookup (same_id z) more ≡ Some x → IsLevelOf h z x) q
      (λ same there.
      let kq : k ≡ q = same_id-true k q same in
      let one : Some l ≡ Some x = sym (note q ∙ ap (λ b. cond b (Some l) (lookup (same_id q) levels)) same) ∙ there in
      let lx : l ≡ x = cc in
      subst (λ z. IsLevelOf h z x) kq (subst (λ y. IsLevelOf h k y) lx is))
      (λ apart there. are.noted q x (sym (note q ∙ ap (λ b. cond b (Some l) (lookup (same_id q) levels)) apart) ∙ there))
      found;
}

-- The history n is h with the commit d under k, which had none.
module _ (h n : History) (k : ObjectId) (d : Entry) (l : ℕ) (new : entry_at h k ≡ None) (put : (q : ObjectId) → entry_at n q ≡ cond (same_id k q) (Some d) (entry_at h q)) where
  at-it : (q : ObjectId) → same_id k q ≡ true → entry_at n q ≡ Some d
  at-it q same = put q ∙ ap (λ b. cond b (Some d) (entry_at h q)) same

  at-other : (q : ObjectId) → same_id k q ≡ false → entry_at n q ≡ entry_at h q
  at-other q apart = put q ∙ ap (λ b. cond b (Some d) (entry_at h q)) apart

  pub put-keeps : Keeps h n
  put-keeps = λ q has. entry-stays h n k d new put q has

  pub put-has : Has n k
  put-has = ap is_some (at-it k (same_id-itself k))

  pub put-level : d.generation ≡ Some l → l < 2 ^ 32 - 1 → IsLevelOf n k l
  put-level gen small = record {
    has = put-has;
    is = ap generation_in (at-it k (same_id-itself k)) ∙ ap (λ g. unwrap_or g (2 ^ 32 - 1)) gen;
    known = small;
  }

  put-commits : IsCommitOf k d → AreCommits h → AreCommits n
  put-commits is are = λ q e found.
      by-id k (λ z. entry_at n z ≡ Some e → IsCommitOf z e) q
      (λ same there.
      let kq : k ≡ q = same_id-true k q same in
      let one : Some d ≡ Some e = sym (at-it q same) ∙ there in
      let de : d ≡ e = cc in
      subst (λ z. IsCommitOf z e) kq (subst (λ x. IsCommitOf k x) de is))
      (λ apart there. are q e (sym (at-other q apart) ∙ there))
      found

  put-levelled : d.generation ≡ Some l → l < 2 ^ 32 - 1 → ((q : ObjectId) → IsTrue (is_one_of d.parents q) → IsBelow h l q) → IsLevelled h → IsLevelled n
  put-levelled gen small below is =
      let own : (a : ObjectId) → same_id k a ≡ true → generation_of n a ≡ l = λ a same. ap generation_in (at-it a same) ∙ ap (λ g. unwrap_or g (2 ^ 32 - 1)) gen in
      let other : (a : ObjectId) → same_id k a ≡ false → generation_of n a ≡ generation_of h a = λ a apart. ap generation_in (at-other a apart) in
      record {
        known = λ a has.
            by-id k (λ z. Has n z → generation_of n z < 2 ^ 32 - 1) a
            (λ same _. let e = own a same in omega arith)
            (λ apart there. let e = other a apart in let k = is.known a (sym (ap is_some (at-other a apart)) ∙ there) in omega arith)
            has;
        closed = λ a b member.
            by-id k (λ z. IsTrue (is_one_of (parents_in (entry_at n z)) b) → Has n b) a
            (λ same m. let of_d : IsTrue (is_one_of d.parents b) = sym (ap (λ o. is_one_of (parents_in o) b) (at-it a same)) ∙ m in
            let there = (below b of_d).has in ap is_some (entry-stays h n k d new put b there) ∙ there)
            (λ apart m. let of_h : IsTrue (is_one_of (parents_in (entry_at h a)) b) = sym (ap (λ o. is_one_of (parents_in o) b) (at-other a apart)) ∙ m in
            let there = is.closed a b of_h in ap is_some (entry-stays h n k d new put b there) ∙ there)
            member;
        fall = λ a b edge.
            by-id k (λ z. IsEdge n z b → generation_of n b < generation_of n z) a
            (λ same e. let of_d : IsTrue (is_one_of d.parents b) = sym (ap (λ o. is_one_of (parents_in o) b) (at-it a same)) ∙ e.0 in
            let low = below b of_d in
            let lower = low.less in
            let stays : generation_of n b ≡ generation_of h b = ap generation_in (entry-stays h n k d new put b low.has) in
            let mine = own a same in omega arith)
            (λ apart e. let of_h : IsTrue (is_one_of (parents_in (entry_at h a)) b) = sym (ap (λ o. is_one_of (parents_in o) b) (at-other a apart)) ∙ e.0 in
            let there = is.closed a b of_h in
            let lower = is.fall a b (of_h, there) in
            let stays : generation_of n b ≡ generation_of h b = ap generation_in (entry-stays h n k d new put b there) in
            let mine = other a apart in omega arith)
            edge;
      }

  pub put-loaded : (levels : List (ObjectId × ℕ)) → d.generation ≡ Some l → l < 2 ^ 32 - 1
      → ((q : ObjectId) → IsTrue (is_one_of d.parents q) → IsBelow h l q) → IsCommitOf k d → AreLoaded h levels → AreLoaded n levels
  put-loaded levels gen small below is are = record {
    levelled = put-levelled gen small below are.levelled;
    authentic = put-commits is are.authentic;
    noted = λ q x found. level-stays h n put-keeps q x (are.noted q x found);
  }
