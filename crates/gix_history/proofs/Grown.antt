-- The known part of a history grows.
use Rattle.std.proofs.Common.{◌≡◌, true, false, cond, Option, Some, None, is_some, IfSome, refl, sym, ap, ◌∙◌, subst, List, []}
use Rattle.std.specs.Map.{lookup}
use Rattle.gix_base.specs.declared.hash.ObjectId.{ObjectId}
use Rattle.gix_revwalk.specs.History.{History, Entry, Has, entry_at, same_id}
use Rattle.gix_revwalk.proofs.Ids.{same_id-true, same_id-itself}
use Rattle.gix_revwalk.proofs.Inserted.{entry-stays}
use Rattle.gix_object.specs.Authentic.{IsAuthentic}
use Rattle.gix_history.specs.Origins.{IsFrom, IsFromObject, AreFromObjects}
use Rattle.gix_history.specs.Grown.{Sourced, AreSourced, Grows, origin_at}
use Rattle.gix_history.specs.declared.reader.Origin.{Origin}

pub grows-itself : (a : Sourced) → Grows a a
grows-itself a = record { commits = λ q has. refl; origins = λ q has. refl }

pub grows-on : (a b c : Sourced) → Grows a b → Grows b c → Grows a c
grows-on a b c f g = record {
  commits = λ q has. g.commits q (ap is_some (f.commits q has) ∙ has) ∙ f.commits q has;
  origins = λ q has. g.origins q (ap is_some (f.commits q has) ∙ has) ∙ f.origins q has;
}

-- What was noted, if anything, is where the commit is from.
pub origin-found : (known : Sourced) (id : ObjectId) (o : Option Origin) → origin_at known id ≡ o → AreSourced known
    → IfSome o (λ origin. (commit : Entry) → entry_at known.commits id ≡ Some commit → IsFrom origin id commit)
origin-found known id None is are = tt
origin-found known id (Some origin) is are = λ commit found.
    let had = are id commit found in
    let one : Some had.0 ≡ Some origin = sym had.1 ∙ is in
    let same : had.0 ≡ origin = cc in
    subst (λ o. IsFrom o id commit) same had.2

pub lacks-of : (o : Option Entry) → is_some o ≡ false → o ≡ None
lacks-of None e = refl
lacks-of (Some x) e = cc

-- Either an id is k, or not.
pub by-id : (k : ObjectId) (P : ObjectId → Type 0) (q : ObjectId) → (same_id k q ≡ true → P q) → (same_id k q ≡ false → P q) → P q
by-id k P q on off =
    elim (same_id k q) as (λ b. same_id k q ≡ b → P q) [ true ↦ λ e. on e | false ↦ λ e. off e ] refl

-- The origin o of k was noted, of which h has no commit.
module _ (h : History) (origins noted : List (ObjectId × Origin)) (k : ObjectId) (o : Origin) (lacks : entry_at h k ≡ None)
    (note : (q : ObjectId) → lookup (same_id q) noted ≡ cond (same_id k q) (Some o) (lookup (same_id q) origins)) where
  apart-from : (q : ObjectId) → Has h q → same_id k q ≡ false → lookup (same_id q) noted ≡ lookup (same_id q) origins
  apart-from q has apart = note q ∙ ap (λ b. cond b (Some o) (lookup (same_id q) origins)) apart

  not-it : (q : ObjectId) → Has h q → same_id k q ≡ true → false ≡ true
  not-it q has same = sym (ap is_some lacks) ∙ ap (λ x. is_some (entry_at h x)) (same_id-true k q same) ∙ has

  pub noted-same : (q : ObjectId) → Has h q → lookup (same_id q) noted ≡ lookup (same_id q) origins
  noted-same q has =
      by-id k (λ z. Has h z → lookup (same_id z) noted ≡ lookup (same_id z) origins) q
      (λ same there. let wrong : false ≡ true = not-it q there same in cc)
      (λ apart there. apart-from q there apart) has

  pub noted-at : lookup (same_id k) noted ≡ Some o
  noted-at = note k ∙ ap (λ b. cond b (Some o) (lookup (same_id k) origins)) (same_id-itself k)

  pub note-grows : Grows (record { commits = h; origins = origins }) (record { commits = h; origins = noted })
  note-grows = record { commits = λ q has. refl; origins = λ q has. noted-same q has }

  pub note-sourced : AreSourced (record { commits = h; origins = origins }) → AreSourced (record { commits = h; origins = noted })
  note-sourced are = λ q e found.
      let had = are q e found in (had.0, noted-same q (ap is_some found) ∙ had.1, had.2)

  -- Then the commit d was put under k.
  module _ (n : History) (d : Entry) (put : (q : ObjectId) → entry_at n q ≡ cond (same_id k q) (Some d) (entry_at h q)) where
    pub put-grows : Grows (record { commits = h; origins = origins }) (record { commits = n; origins = noted })
    put-grows = record {
      commits = λ q has. entry-stays h n k d lacks put q has;
      origins = λ q has. noted-same q has;
    }

    pub put-has : Has n k
    put-has = ap is_some (put k ∙ ap (λ b. cond b (Some d) (entry_at h k)) (same_id-itself k))

    pub put-sourced : IsFrom o k d → AreSourced (record { commits = h; origins = origins }) → AreSourced (record { commits = n; origins = noted })
    put-sourced from are = λ q e found.
        by-id k (λ z. entry_at n z ≡ Some e → (origin : Origin) × (lookup (same_id z) noted ≡ Some origin) × IsFrom origin z e) q
        (λ same there.
        let kq : k ≡ q = same_id-true k q same in
        let one : Some d ≡ Some e = sym (put q ∙ ap (λ b. cond b (Some d) (entry_at h q)) same) ∙ there in
        let de : d ≡ e = cc in
        let at : lookup (same_id q) noted ≡ Some o = note q ∙ ap (λ b. cond b (Some o) (lookup (same_id q) origins)) same in
        (o, at, subst (λ z. IsFrom o z e) kq (subst (λ x. IsFrom o k x) de from)))
        (λ apart there.
        let old : entry_at h q ≡ Some e = sym (put q ∙ ap (λ b. cond b (Some d) (entry_at h q)) apart) ∙ there in
        let had = are q e old in
        (had.0, (note q ∙ ap (λ b. cond b (Some o) (lookup (same_id q) origins)) apart) ∙ had.1, had.2))
        found

    pub put-from-objects : IsFromObject k d → AreFromObjects h → AreFromObjects n
    put-from-objects one are = (
      (λ q. cond (same_id k q) one.0 (are.0 q)),
      (λ q e found.
          by-id k (λ z. entry_at n z ≡ Some e → IsAuthentic (cond (same_id k z) one.0 (are.0 z)) z e) q
          (λ same there.
          let kq : k ≡ q = same_id-true k q same in
          let found : Some d ≡ Some e = sym (put q ∙ ap (λ b. cond b (Some d) (entry_at h q)) same) ∙ there in
          let de : d ≡ e = cc in
          subst (λ b. IsAuthentic (cond b one.0 (are.0 q)) q e) (sym same)
          (subst (λ z. IsAuthentic one.0 z e) kq (subst (λ x. IsAuthentic one.0 k x) de one.1)))
          (λ apart there.
          let old : entry_at h q ≡ Some e = sym (put q ∙ ap (λ b. cond b (Some d) (entry_at h q)) apart) ∙ there in
          subst (λ b. IsAuthentic (cond b one.0 (are.0 q)) q e) (sym apart) (are.1 q e old))
          found),
    )

-- Where no origin is noted, no commit is known.
pub none-known : (known : Sourced) → known.origins ≡ [] → AreSourced known → (id : ObjectId) → entry_at known.commits id ≡ None
none-known known none are id =
    elim (entry_at known.commits id) as (λ o. entry_at known.commits id ≡ o → o ≡ None) [
      | None ↦ λ e. refl
      | Some commit ↦ λ e. let had = are id commit e in let wrong : None ≡ Some had.0 = ap (λ l. lookup (same_id id) l) (sym none) ∙ had.1 in cc
    ] refl
