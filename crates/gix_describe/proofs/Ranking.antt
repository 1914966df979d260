-- Ranks of queued commits, as more commits are met.
use Rattle.std.proofs.Common.{◌≡◌, ℕ, zero, suc, ◌-◌, ◌<◌, ◌≤◌, Bool, true, false, cond, refl, ap, sym, subst, ◌∙◌, List, [], ◌∷◌, ◌++◌, ◌||◌, ◌+◌, is_some, is_none, length, map, get_or, IsTrue, Option, Some, None, arith}
use Rattle.std.specs.List.Sorted.{IsPermutation}
use Rattle.std.specs.Map.{lookup}
use Rattle.std.specs.Prelude.{All, IfSome}
use Rattle.std.proofs.lemmas.Bool.{lt-ltb, le-ltb}
use Rattle.std.proofs.lemmas.List.{length_push}
use Rattle.std.proofs.lemmas.List.Sorted.{All-permutation}
use Rattle.gix_base.specs.declared.hash.ObjectId.{ObjectId}
use Rattle.gix_revwalk.specs.History.{History, entry_at, parents_in, same_id, is_one_of, Has}
use Rattle.gix_revwalk.proofs.Ids.{same_id-true, same_id-itself}
use Rattle.gix_revwalk.proofs.Members.{one_of-left, one_of-right, one_of-head, one_of-tail}
use Rattle.gix_describe.specs.declared.describe.options.Tie.{Tie}
use Rattle.gix_describe.specs.declared.describe.options.Tie.TheVariants.{ById, ByMeeting}
use Rattle.gix_describe.specs.declared.describe.key.Key.{Key}
use Rattle.gix_describe.specs.declared.describe.met.Met.{Met}
use Rattle.gix_describe.specs.Order.{Ranking, PutBack, place, met_after, met_from, met_list, key_rank, rank_among, again, tie_rank}
use Rattle.gix_describe.specs.Handing.{Queue, queued_ids, IsRanked, AreRanked, HaveRanks}
use Rattle.gix_describe.proofs.Handing.{all_cons}
use Rattle.gix_describe.proofs.Orders.{place_left}

-- an id is one of those of a map if it has a value
pub ids_have : {Y : Type 0} (es : List (ObjectId × Y)) (q : ObjectId) → is_one_of (map (λ e. e.0) es) q ≡ is_some (lookup (same_id q) es)
ids_have [] q = refl
ids_have {Y} (e ∷ es) q = elim (same_id q e.0) as (λ b. (b || is_one_of (map (λ (e : ObjectId × Y). e.0) es) q) ≡ is_some (cond b (Some e.1) (lookup (same_id q) es))) [
  | true ↦ refl
  | false ↦ ids_have es q
]

-- a map without values has no id
pub none_held : {Y : Type 0} (es : List (ObjectId × Y)) → ((q : ObjectId) → lookup (same_id q) es ≡ None) → es ≡ []
none_held [] none = refl
none_held {Y} (e ∷ es) none = absurd (let f : Some e.1 ≡ None = sym (ap (λ b. cond b (Some e.1) (lookup (same_id e.0) es)) (same_id-itself e.0)) ∙ none e.0 in cc)

-- the place of one that comes last
pub place_last : (ids : List ObjectId) (p : ObjectId) → is_one_of ids p ≡ false → place (ids ++ p ∷ []) p ≡ length ids
place_last [] p out = ap (λ b. cond b 0 1) (same_id-itself p)
place_last (x ∷ ids) p out = elim (same_id p x) as (λ b. (b || is_one_of ids p) ≡ false → cond b 0 (place (ids ++ p ∷ []) p + 1) ≡ length (x ∷ ids)) [
  | true ↦ λ e. cc
  | false ↦ λ e. let r : place (ids ++ p ∷ []) p ≡ length ids = place_last ids p e in omega arith
] out

-- ---- what is met
pub met_after_push : (h : History) (ms ps : List ObjectId) (p : ObjectId) → met_after h ms (ps ++ p ∷ []) ≡ met_after h (met_after h ms ps) (p ∷ [])
met_after_push h ms [] p = refl
met_after_push h ms (x ∷ ps) p = met_after_push h (cond (is_one_of ms x || is_none (entry_at h x)) ms (ms ++ x ∷ [])) ps p

met_from_push : (h : History) (ms xs : List ObjectId) (x : ObjectId) → met_from h ms (xs ++ x ∷ []) ≡ met_after h (met_from h ms xs) (parents_in (entry_at h x))
met_from_push h ms [] x = refl
met_from_push h ms (y ∷ xs) x = met_from_push h (met_after h ms (parents_in (entry_at h y))) xs x

pub met_list_push : (h : History) (s : ObjectId) (xs : List ObjectId) (x : ObjectId) → met_list h s (xs ++ x ∷ []) ≡ met_after h (met_list h s xs) (parents_in (entry_at h x))
met_list_push h s xs x = met_from_push h (s ∷ []) xs x

pub met_old : (h : History) (ms : List ObjectId) (p : ObjectId) → is_one_of ms p ≡ true → ms ≡ met_after h ms (p ∷ [])
met_old h ms p m = sym (ap (λ b. cond (b || is_none (entry_at h p)) ms (ms ++ p ∷ [])) m)

pub met_missing : (h : History) (ms : List ObjectId) (p : ObjectId) → is_some (entry_at h p) ≡ false → ms ≡ met_after h ms (p ∷ [])
met_missing h ms p e = sym (ap (λ b. cond b ms (ms ++ p ∷ [])) (by (is_one_of ms p) (entry_at h p) e))
  where
    by : {X : Type 0} (a : Bool) (o : Option X) → is_some o ≡ false → (a || is_none o) ≡ true
    by true o e = refl
    by false None e = refl
    by false (Some x) e = cc

pub met_new : (h : History) (ms : List ObjectId) (p : ObjectId) → is_one_of ms p ≡ false → Has h p → ms ++ p ∷ [] ≡ met_after h ms (p ∷ [])
met_new h ms p out has = sym (ap (λ b. cond b ms (ms ++ p ∷ [])) (by (is_one_of ms p) (entry_at h p) out has))
  where
    by : {X : Type 0} (a : Bool) (o : Option X) → a ≡ false → is_some o ≡ true → (a || is_none o) ≡ false
    by true o e f = cc
    by false None e f = cc
    by false (Some x) e f = refl

-- ---- ranks
push_rank : (tie : Tie) (back : Option (ObjectId × ℕ)) (ids more : List ObjectId) (c : ObjectId) → is_one_of ids c ≡ true → rank_among tie back ids c ≡ rank_among tie back (ids ++ more) c
push_rank tie None ids more c m = ap (key_rank tie) (sym (place_left ids more c m))
push_rank tie (Some b) ids more c m = ap (λ n. cond (same_id b.0 c) b.1 (key_rank tie n)) (sym (place_left ids more c m))

-- a commit that is met has the rank of the last place
last_rank : (tie : Tie) (back : Option (ObjectId × ℕ)) (ids : List ObjectId) (c : ObjectId) → IfSome back (λ b. IsTrue (is_one_of ids b.0)) → is_one_of ids c ≡ false → key_rank tie (length ids) ≡ rank_among tie back (ids ++ c ∷ []) c
last_rank tie None ids c kept out = ap (key_rank tie) (sym (place_last ids c out))
last_rank tie (Some b) ids c kept out = elim (same_id b.0 c) as (λ d. same_id b.0 c ≡ d → key_rank tie (length ids) ≡ cond d b.1 (key_rank tie (place (ids ++ c ∷ []) c))) [
  | true ↦ λ e. absurd (let f : true ≡ false = sym kept ∙ ap (is_one_of ids) (same_id-true b.0 c e) ∙ out in cc)
  | false ↦ λ e. ap (key_rank tie) (sym (place_last ids c out))
] refl

pub ranked_popped : (tie : Tie) (back : Option (ObjectId × ℕ)) (ids : List ObjectId) (k : Key) (v : Met) (q0 q1 : Queue) → IsPermutation q0 ((k, v) ∷ q1) → AreRanked tie back ids q0 → IsRanked tie back ids (k, v) × AreRanked tie back ids q1
ranked_popped tie back ids k v q0 q1 perm are =
    let both : All (IsRanked tie back ids) ((k, v) ∷ q1) = All-permutation (IsRanked tie back ids) q0 ((k, v) ∷ q1) perm are.1 in
    (both 0 (k, v) (omega arith), (are.0, λ i p lt. both (suc i) p (omega arith)))

ranked_more : (tie : Tie) (back : Option (ObjectId × ℕ)) (ids : List ObjectId) (k : Key) (v : Met) (q0 q1 : Queue) → IsRanked tie back ids (k, v) → IsPermutation ((k, v) ∷ q0) q1 → All (IsRanked tie back ids) q0 → All (IsRanked tie back ids) q1
ranked_more tie back ids k v q0 q1 own perm all = All-permutation (IsRanked tie back ids) ((k, v) ∷ q0) q1 perm (all_cons (IsRanked tie back ids) (k, v) q0 own all)

pub ranked_begins : (tie : Tie) (s : ObjectId) (k : Key) (v : Met) (q0 q1 : Queue) → v.id ≡ s → k.rank ≡ 0 → q0 ≡ [] → IsPermutation ((k, v) ∷ q0) q1 → AreRanked tie None (s ∷ []) q1
ranked_begins tie s k v q0 q1 is rank none perm = (
  tt,
  ranked_more tie None (s ∷ []) k v q0 q1 (subst (λ z. IsRanked tie None (z ∷ []) (k, v)) is (one_of-head v.id [], rank ∙ first tie ∙ ap (key_rank tie) (sym (place_last [] v.id refl)))) perm
      (subst (λ (l : Queue). All (IsRanked tie None (s ∷ [])) l) (sym none) (λ i p lt. absurd (omega arith))),
)
  where
    first : (tie : Tie) → 0 ≡ key_rank tie 0
    first ById = refl
    first ByMeeting = omega arith

pub ranked_new : (tie : Tie) (back : Option (ObjectId × ℕ)) (ids : List ObjectId) (k : Key) (v : Met) (q0 q1 : Queue) → is_one_of ids v.id ≡ false → k.rank ≡ key_rank tie (length ids) → IsPermutation ((k, v) ∷ q0) q1 → AreRanked tie back ids q0
    → AreRanked tie back (ids ++ v.id ∷ []) q1
ranked_new tie back ids k v q0 q1 out rank perm are = (
  kept back are.0,
  ranked_more tie back (ids ++ v.id ∷ []) k v q0 q1 (one_of-right ids (v.id ∷ []) v.id (one_of-head v.id []), rank ∙ last_rank tie back ids v.id are.0 out) perm
      (λ i p lt. let r = are.1 i p lt in (one_of-left ids (v.id ∷ []) _ r.0, r.1 ∙ push_rank tie back ids (v.id ∷ []) _ r.0)),
)
  where
    kept : (o : Option (ObjectId × ℕ)) → IfSome o (λ b. IsTrue (is_one_of ids b.0)) → IfSome o (λ b. IsTrue (is_one_of (ids ++ v.id ∷ []) b.0))
    kept None m = tt
    kept (Some b) m = one_of-left ids (v.id ∷ []) b.0 m

-- a commit that is put back alone gets another rank
pub ranked_back : (tie : Tie) (ids : List ObjectId) (k : Key) (v : Met) (q0 q1 : Queue) → is_one_of ids v.id ≡ true → ((q : ObjectId) → is_one_of (queued_ids q0) q ≡ true → same_id v.id q ≡ false) → IsPermutation ((k, v) ∷ q0) q1 → AreRanked tie None ids q0
    → AreRanked tie (Some (v.id, k.rank)) ids q1
ranked_back tie ids k v q0 q1 own other perm are = (
  own,
  ranked_more tie (Some (v.id, k.rank)) ids k v q0 q1 (own, sym (ap (λ b. cond b k.rank (key_rank tie (place ids v.id))) (same_id-itself v.id))) perm
      (λ i p lt. let r = are.1 i p lt in let c = (get_or q0 i p).1.id in (r.0, r.1 ∙ sym (ap (λ b. cond b k.rank (key_rank tie (place ids c))) (other c (queued_at q0 i p lt))))),
)
  where
    queued_at : (q : Queue) (i : ℕ) (p : Key × Met) → i < length q → is_one_of (queued_ids q) (get_or q i p).1.id ≡ true
    queued_at [] i p lt = absurd (omega arith)
    queued_at (e ∷ q) zero p lt = one_of-head e.1.id (queued_ids q)
    queued_at (e ∷ q) (suc i) p lt = one_of-tail e.1.id (queued_ids q) _ (queued_at q i p (omega arith))

-- ---- the ranks of keys, as a walk goes on
pub have_ranks : (ranks : Ranking) (h : History) (s : ObjectId) (popped ids : List ObjectId) (q : Queue) → ids ≡ met_list h s popped → AreRanked ranks.0 (again ranks.0 h s popped ranks.1) ids q → HaveRanks (tie_rank ranks h s popped) q
have_ranks ranks h s popped ids q met are = λ i p lt. (are.1 i p lt).1 ∙ ap (λ l. rank_among ranks.0 (again ranks.0 h s popped ranks.1) l (get_or q i p).1.id) met

-- a commit that was put back has its rank from then on
pub again_is : (tie : Tie) (h : History) (s : ObjectId) (xs : List ObjectId) (b : PutBack) → length b.0 ≤ length xs → again tie h s xs (Some b) ≡ Some (b.1, key_rank tie (length (met_list h s b.0)) - 1)
again_is tie h s xs b le = ap (λ c. cond c None (Some (b.1, key_rank tie (length (met_list h s b.0)) - 1))) (le-ltb (length xs) (length b.0) le)

pub again_kept : (tie : Tie) (h : History) (s : ObjectId) (xs : List ObjectId) (x : ObjectId) (b : PutBack) → length b.0 ≤ length xs → again tie h s xs (Some b) ≡ again tie h s (xs ++ x ∷ []) (Some b)
again_kept tie h s xs x b le = again_is tie h s xs b le ∙ sym (again_is tie h s (xs ++ x ∷ []) b (let len : length (xs ++ x ∷ []) ≡ length xs + 1 = length_push xs x in omega arith))

-- before that, it has the rank of its place
pub again_before : (tie : Tie) (h : History) (s : ObjectId) (xs : List ObjectId) (b : PutBack) → length xs < length b.0 → (c : ObjectId) → tie_rank (tie, None) h s xs c ≡ tie_rank (tie, Some b) h s xs c
again_before tie h s xs b lt c = sym (ap (λ d. rank_among tie (cond d None (Some (b.1, key_rank tie (length (met_list h s b.0)) - 1))) (met_list h s xs) c) (lt-ltb (length xs) (length b.0) lt))
