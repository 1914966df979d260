-- The part of an index that has the ids with a first byte.
use Rattle.std.proofs.Common.{◌≡◌, ℕ, ◌+◌, ◌-◌, ◌*◌, ◌<◌, ◌≤◌, List, length, take, drop, slice_index, refl, sym, ap, ◌∙◌, subst, arith}
use Rattle.std.proofs.lemmas.List.{drop-drop, drop-take, take-take, length-take-le, length-drop}
use Rattle.gix_base.specs.declared.hash.ObjectId.{ObjectId}
use Rattle.gix_ids.specs.TableBytes.{id_from}
use Rattle.gix_ids.specs.TableForm.{compare_ids, id_of, fan, fan_below, first_byte, IsSorted}
use Rattle.gix_ids.specs.TableLookup.{IsAt, IsAbsent}
use Rattle.gix_ids.specs.declared.table.Table.{Table}
use Rattle.gix_ids.proofs.Fanned.{first-of}
use Rattle.gix_pack.specs.IndexForm.{table_of}
use Rattle.gix_pack.specs.PartForm.{AreRising, part_of}
use Rattle.gix_pack.specs.PackLaws.{PartsFind}
use Rattle.gix_pack.proofs.Objects.{objects-has, objects-lacks}

-- an id of some ids that were taken out
id-taken : (s : List ℕ) (from n k : ℕ) → k < n → id_from (take (20 * n) (drop from s)) (20 * k) ≡ id_from s (from + 20 * k)
unfolding id_from
id-taken s from n k h =
    let more : ℕ = 20 * n - 20 * k in
    let e : 20 * n ≡ 20 * k + more = omega arith in
    let cut : drop (20 * k) (take (20 * n) (drop from s)) ≡ take more (drop (20 * k) (drop from s)) = ap (λ m. drop (20 * k) (take m (drop from s))) e ∙ drop-take (20 * k) more (drop from s) in
    let bytes : take 20 (drop (20 * k) (take (20 * n) (drop from s))) ≡ take 20 (drop (from + 20 * k) s) =
    ap (take 20) cut ∙ take-take 20 more (drop (20 * k) (drop from s)) (omega arith) ∙ ap (take 20) (drop-drop (20 * k) from s) in
    ap (λ (l : List ℕ). record { 0 = l }) bytes

module _ (s : List ℕ) (t : Table) (sorted : IsSorted s t) (b : ℕ) (byte : b < 256) where
  abbrev low : ℕ
  low = fan_below s t b

  abbrev number : ℕ
  number = fan s t b - fan_below s t b

  abbrev part : List ℕ
  part = take (20 * number) (drop (t.ids + 20 * low) s)

  part-count : (part_of part).count ≡ number
  part-count =
      let most = (sorted.fans b byte).most in
      let rises = (sorted.fans b byte).rises in
      let ids = sorted.inside.ids in
      let rest = length-drop (t.ids + 20 * low) s in
      let e : length part ≡ 20 * number = length-take-le (20 * number) (drop (t.ids + 20 * low) s) (omega (arith, most, rises, ids, rest)) in
      omega (arith, e)

  part-id : (k : ℕ) → k < number → id_of part (part_of part) k ≡ id_of s t (low + k)
  part-id k h =
      let e : 0 + 20 * k ≡ 20 * k = omega arith in
      let f : t.ids + 20 * low + 20 * k ≡ t.ids + 20 * (low + k) = omega arith in
      ap (id_from part) e ∙ id-taken s (t.ids + 20 * low) number k h ∙ ap (id_from s) f

  within : (k : ℕ) → k < (part_of part).count → low + k < t.count
  within k h = let most = (sorted.fans b byte).most in let rises = (sorted.fans b byte).rises in let e = part-count in omega (arith, most, rises, e, h)

  pub part-rises : AreRising part
  part-rises i h =
      let e = part-count in
      let here : i < number = omega (arith, e, h) in
      let next : i + 1 < number = omega (arith, e, h) in
      let f : low + i + 1 ≡ low + (i + 1) = omega arith in
      let w = within (i + 1) h in
      ap (λ a. compare_ids a (id_of part (part_of part) (i + 1))) (part-id i here)
      ∙ ap (compare_ids (id_of s t (low + i))) (part-id (i + 1) next ∙ ap (id_of s t) (sym f))
      ∙ sorted.rises (low + i) (omega (arith, w))

  pub part-at : (id : ObjectId) (k : ℕ) → IsAt part (part_of part) id k → IsAt s t id (low + k)
  part-at id k at =
      let e = part-count in
      let here = at.below in
      record { below = within k here; same = sym (part-id k (omega (arith, e, here))) ∙ at.same }

  pub part-absent : (id : ObjectId) → slice_index id.0 0 ≡ b → IsAbsent part (part_of part) id → IsAbsent s t id
  part-absent id first nowhere k h is =
      let e = part-count in
      let own : first_byte s t k ≡ b = sym (first-of s (t.ids + 20 * k)) ∙ ap (λ (a : ObjectId). slice_index a.0 0) is ∙ first in
      let above : low ≤ k = let a = (sorted.fanned k h).above in subst (λ n. fan_below s t n ≤ k) own a in
      let below : k < fan s t b = let a = (sorted.fanned k h).below in subst (λ n. k < fan s t n) own a in
      let here : k - low < number = omega (arith, above, below) in
      let f : low + (k - low) ≡ k = omega (arith, above) in
      nowhere (k - low) (omega (arith, e, here)) (part-id (k - low) here ∙ ap (id_of s t) f ∙ is)

pub parts-find : PartsFind
parts-find s id index byte = record {
  rising = part-rises s (table_of s) index.sorted (slice_index id.0 0) byte;
  found = λ k at. objects-has s (table_of s) refl index.sorted id _ (part-at s (table_of s) index.sorted (slice_index id.0 0) byte id k at);
  lacking = λ nowhere. objects-lacks s (table_of s) refl id (part-absent s (table_of s) index.sorted (slice_index id.0 0) byte id refl nowhere);
}
