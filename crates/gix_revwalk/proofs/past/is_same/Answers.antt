use Rattle.std.proofs.Common.{arith, ◌≡◌, ◌∙◌, true, false, nat_eq, length, ap, sym, refl}
use Rattle.std.specs.Int.{w64, to_le_bytes, from_le_bytes}
use Rattle.std.proofs.lemmas.Bool.{eqb-true, eq-eqb}
use Rattle.gix_base.specs.declared.hash.ObjectId.{ObjectId}
use Rattle.gix_revwalk.specs.History.{same_id}
use Rattle.gix_revwalk.specs.Words.{eight_from}
use Rattle.gix_revwalk.proofs.Ids.{same_id-true, words-same}
use Rattle.gix_revwalk.proofs.past.is_same.Goals as goal

pub returns : goal.returns
returns c =
    let a = c.args.a.now in
    let b = c.args.b.now in
    let x = c.word-5.result in
    let y = c.word-6.result in
    let len_a : length a.0 ≡ 20 = c.word.ensures.len in
    let len_b : length b.0 ≡ 20 = c.word-2.ensures.len in
    let first : c.word.result ≡ c.word-2.result = omega (arith, c.if-word.false) in
    let second : c.word-3.result ≡ c.word-4.result = omega (arith, c.if-word-2.false) in
    elim (same_id a b) as (λ s. same_id a b ≡ s → nat_eq x y ≡ s) [
      | true ↦ λ e. eq-eqb x y
          (c.word-5.ensures.value ∙ ap (λ (i : ObjectId). from_le_bytes w64 (eight_from i.0 12)) (same_id-true a b e) ∙ sym c.word-6.ensures.value)
      | false ↦ λ e. elim (nat_eq x y) as (λ t. nat_eq x y ≡ t → t ≡ false) [
        | true ↦ λ t.
            let third = eqb-true x y t in
            let same : same_id a b ≡ true = words-same a b len_a len_b
            (sym c.word.ensures.bytes ∙ ap (to_le_bytes w64) first ∙ c.word-2.ensures.bytes)
            (sym c.word-3.ensures.bytes ∙ ap (to_le_bytes w64) second ∙ c.word-4.ensures.bytes)
            (sym c.word-5.ensures.bytes ∙ ap (to_le_bytes w64) third ∙ c.word-6.ensures.bytes) in
            cc
        | false ↦ λ _. refl
      ] refl
    ] refl
