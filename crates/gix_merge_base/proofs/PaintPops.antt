-- A pop of painting, and the step after it.
use Rattle.std.proofs.Common.{◌≡◌, ℕ, sym, subst, List, ◌∷◌, ◌+◌, ◌⊎◌, IsTrue}
use Rattle.std.specs.List.Sorted.{IsPermutation}
use Rattle.gix_base.specs.declared.hash.ObjectId.{ObjectId}
use Rattle.gix_revwalk.specs.Graph.{Graphed}
use Rattle.gix_revwalk.specs.History.{History, is_one_of}
use Rattle.gix_revwalk.specs.Number.{place_in}
use Rattle.gix_revwalk.specs.Walks.{HoldsMore}
use Rattle.gix_revwalk.specs.declared.graph.commit.Commit.{Commit}
use Rattle.gix_revwalk.specs.declared.numbers.Number.{Number}
use Rattle.gix_merge_base.specs.Front.{HoldsSame, Pops}
use Rattle.gix_merge_base.specs.Keys.{KeyAtMost}
use Rattle.gix_merge_base.specs.Painting.{MayBeMet, MayBeTaken}
use Rattle.gix_merge_base.specs.PaintQueue.{marks_at, queued_ids, id_of, parents_at, IsHeld}
use Rattle.gix_merge_base.specs.PaintSteps.{Steps, results_after}
use Rattle.gix_merge_base.specs.Premises.{KeysFallFrom}
use Rattle.gix_merge_base.specs.declared.merge_base.flags.Flags.{Flags}
use Rattle.gix_merge_base.specs.declared.merge_base.hand.Front.{Front}
use Rattle.gix_merge_base.proofs.Numbered.{id-same}
use Rattle.gix_merge_base.proofs.PaintWalk.{IsWalk, walk_pops, step_takes, step_meets}
use Rattle.gix_merge_base.proofs.QueueKeys.{holds-before}

-- from a, by the pop of n to b, to c, which holds parents of n beside that
module _ {S A : Type 0} (h : History) (f : ObjectId) (os : List ObjectId) (began : ObjectId → Type 0) (a b c : Graphed S (Commit Flags A)) (d e : Front A) (n : Number)
    (same : HoldsSame a b) (pop : Pops h n a d b e) (more : HoldsMore h (parents_at h (id_of b n)) b c)
    (results : List ObjectId) (pops : ℕ) (walk : IsWalk h f os began (IsHeld a) (marks_at a) (queued_ids a d.queue) results pops) where
  is : id_of a n ≡ id_of b n
  is = sym (id-same a b same.ids (place_in n))

  rest : IsPermutation (queued_ids a d.queue) (id_of b n ∷ queued_ids b e.queue)
  rest = subst (λ i. IsPermutation (queued_ids a d.queue) (i ∷ queued_ids b e.queue)) is pop.queue

  top : (z : ObjectId) → IsTrue (is_one_of (queued_ids a d.queue) z) → KeyAtMost h z (id_of b n)
  top = subst (λ i. (z : ObjectId) → IsTrue (is_one_of (queued_ids a d.queue) z) → KeyAtMost h z i) is pop.top

  holds : HoldsMore h (parents_at h (id_of b n)) a c
  holds = holds-before h (parents_at h (id_of b n)) a b c same.ids more

  pub next_walk : (k : Front A) → Steps h (id_of b n) (marks_at b) (queued_ids b e.queue) (marks_at c) (queued_ids c k.queue)
      → IsWalk h f os began (IsHeld c) (marks_at c) (queued_ids c k.queue) (results_after (marks_at b) (id_of b n) results) (pops + 1)
  next_walk k steps = walk_pops h f os began (IsHeld a) (IsHeld c) (marks_at a) (marks_at b) (marks_at c) (id_of b n) (queued_ids a d.queue) (queued_ids b e.queue) (queued_ids c k.queue) results pops
      pop.marks walk rest top pop.some steps holds

  pub next_takes : KeysFallFrom h (f ∷ os) → (p : ObjectId) → IsHeld c p → began p ⊎ MayBeTaken h f os p
  next_takes = step_takes h f os began (IsHeld a) (IsHeld c) (marks_at a) (id_of b n) (queued_ids a d.queue) (queued_ids b e.queue) results pops walk rest top pop.some holds

  pub next_meets : (p : ObjectId) → IsHeld c p → began p ⊎ MayBeMet h f os p
  next_meets = step_meets h f os began (IsHeld a) (IsHeld c) (marks_at a) (id_of b n) (queued_ids a d.queue) (queued_ids b e.queue) results pops walk rest holds
