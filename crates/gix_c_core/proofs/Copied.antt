-- The ids of a file's commits, one after another.
use Rattle.std.proofs.Common.{◌≡◌, ℕ, zero, suc, ◌+◌, true, false, cond, Bool, refl, ap, sym, ◌∙◌, List, [], ◌∷◌, Some, None, is_some, take, add-one}
use Rattle.std.specs.Prelude.{◌||◌, map, slice_get}
use Rattle.std.specs.Option.{option_map}
use Rattle.std.specs.Ordering.{is_eq}
use Rattle.std.specs.BTreeSet.{BTreeSet, contains}
use Rattle.std.specs.Cmp.Lexicographic.{texts_ties}
use Rattle.gix_base.specs.Hash.{id_order}
use Rattle.gix_base.specs.declared.hash.ObjectId.{ObjectId}
use Rattle.gix_revwalk.specs.History.{History, entry_at, same_id, is_one_of}
use Rattle.gix_revwalk.proofs.Members.{or_none}
use Rattle.gix_revwalk.proofs.Places.{same_id-sym}
use Rattle.gix_c_core.proofs.Lacking.{by-order}

-- the ids of a history's commits
abbrev pub ids_in : History → List ObjectId
ids_in h = map (λ e. e.0) h

or-three : (a b c : Bool) → (a || (b || c)) ≡ ((a || b) || c)
or-three true b c = refl
or-three false b c = refl

next : (h : History) (i : ℕ) (id q : ObjectId) → option_map (λ e. e.0) (slice_get h i) ≡ Some id
    → is_one_of (ids_in (take (suc i) h)) q ≡ (is_one_of (ids_in (take i h)) q || same_id q id)
next [] i id q is = cc
next (x ∷ h) zero id q is = let e : x.0 ≡ id = cc in or_none (same_id q x.0) ∙ ap (same_id q) e
next (x ∷ h) (suc i) id q is = ap (λ b. same_id q x.0 || b) (next h i id q is) ∙ or-three (same_id q x.0) (is_one_of (ids_in (take i h)) q) (same_id q id)

last : (h : History) (i : ℕ) → option_map (λ e. e.0) (slice_get h i) ≡ None → take (suc i) h ≡ take i h
last [] zero is = refl
last [] (suc i) is = refl
last (x ∷ h) zero is = cc
last (x ∷ h) (suc i) is = ap (λ l. x ∷ l) (last h i is)

-- one id more in a set
pub one-more : (id : ObjectId) (s n : BTreeSet ObjectId) → ((q : ObjectId) → contains id_order n q ≡ cond (is_eq (id_order id q)) true (contains id_order s q))
    → (q : ObjectId) → is_one_of n.keys q ≡ cond (same_id id q) true (is_one_of s.keys q)
one-more id s n up q = by-order n.keys q ∙ up q ∙ ap (λ b. cond b true (contains id_order s q)) (sym (texts_ties id.0 q.0)) ∙ ap (λ b. cond (same_id id q) true b) (sym (by-order s.keys q))

-- one id more
pub more : (h : History) (i : ℕ) (id : ObjectId) (s n : BTreeSet ObjectId) → option_map (λ e. e.0) (slice_get h i) ≡ Some id
    → ((q : ObjectId) → contains id_order n q ≡ cond (is_eq (id_order id q)) true (contains id_order s q))
    → ((q : ObjectId) → is_one_of s.keys q ≡ is_one_of (ids_in (take i h)) q)
    → (q : ObjectId) → is_one_of n.keys q ≡ is_one_of (ids_in (take (i + 1) h)) q
more h i id s n is up so q =
    let at : is_one_of n.keys q ≡ (is_one_of (ids_in (take i h)) q || same_id q id) =
    one-more id s n up q ∙ ap (λ b. cond b true (is_one_of s.keys q)) (same_id-sym id q) ∙ ap (λ b. cond (same_id q id) true b) (so q) ∙ either (same_id q id) (is_one_of (ids_in (take i h)) q) in
    rw add-one (at ∙ sym (next h i id q is))
  where
    either : (a b : Bool) → cond a true b ≡ (b || a)
    either true true = refl
    either true false = refl
    either false true = refl
    either false false = refl

-- none more
pub no-more : (h : History) (i : ℕ) (s : BTreeSet ObjectId) → option_map (λ e. e.0) (slice_get h i) ≡ None
    → ((q : ObjectId) → is_one_of s.keys q ≡ is_one_of (ids_in (take i h)) q)
    → (q : ObjectId) → is_one_of s.keys q ≡ is_one_of (ids_in (take (i + 1) h)) q
no-more h i s is so q = rw add-one (so q ∙ ap (λ l. is_one_of (ids_in l) q) (sym (last h i is)))

-- the ids of all are those under which there is a commit
pub all-ids : (h : History) (q : ObjectId) → is_one_of (ids_in h) q ≡ is_some (entry_at h q)
all-ids [] q = refl
all-ids (x ∷ h) q = elim (same_id q x.0) as (λ b. (b || is_one_of (ids_in h) q) ≡ is_some (cond b (Some x.1) (entry_at h q))) [
  | true ↦ refl
  | false ↦ all-ids h q
]
