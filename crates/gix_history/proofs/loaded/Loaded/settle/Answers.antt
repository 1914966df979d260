use Rattle.std.proofs.Common.{◌≡◌, ◌<◌, ◌≤◌, ◌+◌, ◌∙◌, subst, refl, arith, IsTrue, take, List, ap, get_or, length, rules}
use Rattle.gix_base.specs.declared.hash.ObjectId.{ObjectId}
use Rattle.gix_revwalk.specs.History.{History, Has, generation_of, is_one_of}
use Rattle.gix_history.specs.Waiting.{IsBelow}
use Rattle.gix_history.proofs.Settled.{settled-more}
use Rattle.gix_history.proofs.loaded.Loaded.settle.Goals as goal

pub loop-i-preserved : goal.loop-i-preserved
loop-i-preserved g c =
    let h : History = c.args.self.now in
    let ps : List ObjectId = c.loop-i.pending.commit.parents.items in
    let inv = c.loop-i.invariant in
    let lv = rw c.in-Some.is at c.level.ensures in
    let level = lv.is in
    let known = lv.known in
    let next = c.saturating_add.ensures in
    let it : c.index-id.result.now ≡ get_or ps c.loop-i.i c.index-id.result.now = search rules in
    let more : c.loop-i.pending.level ≤ c.max-pending.result = omega arith in
    let above : c.in-Some.level + 1 ≤ c.max-pending.result = omega arith in
    let len : length ps ≡ length c.args.pending.now.commit.parents.items = ap (λ v. length v.parents.items) inv.0.commit in
    let within : c.loop-i.i < length ps = omega arith in
    let first : (q : ObjectId) → IsTrue (is_one_of (take c.loop-i.i ps) q) → IsBelow h c.loop-i.pending.level q =
    λ q m. inv.2.below q (ap (λ n. is_one_of (take n ps) q) inv.1 ∙ m) in
    let P : ObjectId → Type 0 = λ x. Has h x in
    let Q : ObjectId → Type 0 = λ x. generation_of h x < c.max-pending.result in (
      record { id = inv.0.id; commit = inv.0.commit },
      refl,
      record {
        within = omega arith;
        below = settled-more h ps c.loop-i.i c.loop-i.pending.level c.max-pending.result c.index-id.result.now within first
            (subst P it lv.has) (subst Q it (omega arith)) more;
        authentic = inv.2.authentic;
      },
    )
