-- Where a walk ends early, the chosen candidate gives an answer.
use Rattle.std.proofs.Common.{◌≡◌, ℕ, subst, List, inl, inr, ◌≤◌, ◌-◌, length, arith, Some}
use Rattle.gix_base.specs.declared.hash.ObjectId.{ObjectId}
use Rattle.gix_revwalk.specs.History.{History, IsAncestor}
use Rattle.gix_revwalk.specs.Sizes.{HasSize, AtMost}
use Rattle.gix_describe.specs.Described.{Names, name_at, IsNamed, IsNamedAncestor, IsNamedBy}
use Rattle.gix_describe.proofs.Counts.{ahead_size}
use Rattle.gix_describe.proofs.Sizes.{ancestors_size}
use Rattle.gix_describe.proofs.Early.{In, Popped, Counted, either}
use Rattle.gix_describe.proofs.EarlyEnds.{count_low, count_high, count_deeper, count_le_out, count_le_unseen, seen_le}
use Rattle.gix_describe.specs.Ahead.{IsAheadOf}

-- a named commit that was popped is a candidate, with a count that is no less
pub record Rival (h : History) (s u : ObjectId) (P : List ObjectId) (count : ℕ) : Type 1 where
  pub Marked : ObjectId → Type 0
  pub late : List ObjectId
  pub counted : Counted h s u P Marked late
  pub more : count ≤ length late

pub early_answer : (h : History) (s t : ObjectId) (names : Names) (cap : ℕ) (name : List ℕ) (P : List ObjectId) (Q : ObjectId → Type 0) (Marked : ObjectId → Type 0) (late : List ObjectId)
    → Popped h s P Q → Counted h s t P Marked late → ((q : ObjectId) → Q q → Marked q) → name_at names t ≡ Some name
    → (AtMost cap (IsNamedAncestor h s names) → (u : ObjectId) → In P u → IsNamed names u → Rival h s u P (length late))
    → IsNamedBy h s names cap t name (length late) (length P)
early_answer h s t names cap name P Q Marked late at one marked named rivals =
    let reached : IsAncestor h s t = at.sound t (inl one.own) in
    let all = ancestors_size h s in
    let below_t = ancestors_size h t in
    let out : HasSize (IsAheadOf h s t) (all.0 - below_t.0) = ahead_size h s t all.0 below_t.0 reached all.1 below_t.1 in
    record {
      t_reached = reached;
      t_named = named;
      all = all.0;
      all_is = all.1;
      ahead = all.0 - below_t.0;
      ahead_is = out;
      low = count_low h s P Q at t Marked late one marked (all.0 - below_t.0) out;
      high = λ f fall. count_high h s P Q at t Marked late one all.0 f all.1 fall;
      deeper = count_deeper h s P Q at t Marked late one;
      seen_most = seen_le h s P Q at all.0 all.1;
      exact = λ older few.
          let low : all.0 - below_t.0 ≤ length late = count_low h s P Q at t Marked late one marked (all.0 - below_t.0) out in
          let up : length late ≤ all.0 - below_t.0 = count_le_out h s P Q at t Marked late one older (all.0 - below_t.0) out in
          let is : all.0 - below_t.0 ≡ length late = omega arith in (
            (t, (reached, (name, named)), subst (λ n. HasSize (IsAheadOf h s t) n) is out),
            λ u n k size. elim (either P u) as (λ _. length late ≤ n) [
              | inl popped ↦
                  let r = rivals few u popped k.1 in
                  let le : length r.late ≤ n = count_le_out h s P Q at u r.Marked r.late r.counted older n size in
                  let less : length late ≤ length r.late = r.more in
                  omega arith
              | inr unseen ↦ count_le_unseen h s P Q at t Marked late one marked older u n k.0 unseen size
            ],
          );
    }
