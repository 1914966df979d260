-- A commit that becomes a result.
use Rattle.std.proofs.Common.{◌≡◌, true, false, cond, refl, ap, ◌∙◌, ◌||◌}
use Rattle.gix_base.specs.declared.hash.ObjectId.{ObjectId}
use Rattle.gix_revwalk.specs.History.{same_id}
use Rattle.gix_revwalk.proofs.Ids.{same_id-true}
use Rattle.gix_revwalk.proofs.Places.{same_id-sym}
use Rattle.gix_merge_base.specs.PaintSteps.{Notes}
use Rattle.gix_merge_base.specs.Marks.{MarkSet, becomes_result, noted}

pub notes_one : (m m' : ObjectId → MarkSet) (id : ObjectId) (w : MarkSet) → becomes_result (m id) ≡ true → w ≡ noted (m id) → ((p : ObjectId) → m' p ≡ cond (same_id id p) w (m p)) → Notes m id m'
notes_one m m' id w e is marks =
    let at : (p : ObjectId) → m' p ≡ cond (same_id id p) (noted (m p)) (m p) =
    λ p. marks p ∙ elim (same_id id p) as (λ b. same_id id p ≡ b → cond b w (m p) ≡ cond b (noted (m p)) (m p)) [
      | true ↦ λ t. is ∙ ap (λ z. noted (m z)) (same_id-true id p t)
      | false ↦ λ _. refl
    ] refl in
    record {
      same = λ p. rw (at p) (elim (same_id id p) as (λ b. ((cond b (noted (m p)) (m p)).one ≡ (m p).one) × ((cond b (noted (m p)) (m p)).two ≡ (m p).two) × ((cond b (noted (m p)) (m p)).stale ≡ (m p).stale)) [ true ↦ (refl, refl, refl) | false ↦ (refl, refl, refl) ]);
      result = λ p. rw (at p, e, same_id-sym p id) (elim (same_id id p) as (λ b. (cond b (noted (m p)) (m p)).result ≡ (cond b true false || (m p).result)) [ true ↦ refl | false ↦ refl ]);
    }
