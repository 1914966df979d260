use Rattle.std.proofs.Common.{◌≡◌, None, length, sym, ap, ◌∙◌, subst, arith}
use Rattle.std.specs.Cmp.Lexicographic.{slice_cmp}
use Rattle.std.specs.Ordering.{nat_cmp}
use Rattle.std.specs.declared.cmp.Ordering.TheVariants.{Equal}
use Rattle.gix_ref_text.specs.Lines.{lines}
use Rattle.gix_ref_text.specs.Snapshot.{first_says, name_at, places_say, AreSorted}
use Rattle.gix_ref_text.proofs.Places.{split-at, same-name, behind-sorted, front-sorted, look-behind, look-here, look-before}
use Rattle.gix_ref_text.proofs.snapshot.find_sorted.Goals.{in-Less, in-Greater}
use Rattle.gix_ref_text.proofs.snapshot.find_sorted.Goals as goal

pub returns-in-Equal : goal.returns-in-Equal
returns-in-Equal c =
    let bytes = c.args.bytes.now in
    let name = c.args.name.now in
    let split = split-at _ c.loop.left.now c.split_at.result.0.now c.split_at.result.1.now c.in-Some.place.now c.in-Some.behind.now c.split_at.ensures.front c.split_at.ensures.back c.in-Some.ensures.cases.0 in
    let equal : slice_cmp nat_cmp (name_at bytes c.in-Some.place.now) name ≡ Equal = ap (λ n. slice_cmp nat_cmp n name) (sym c.name_at.ensures) ∙ sym c.cmp.ensures ∙ c.in-Equal.is in
    c.first_told.ensures
    ∙ ap (λ b. first_says (lines b) name None) c.bytes_from.ensures
    ∙ sym (c.loop.invariant.same ∙ look-here bytes _ _ _ _ name split c.loop.invariant.sorted (same-name _ _ equal))

pub loop-preserved : goal.loop-preserved
loop-preserved c =
    let bytes = c.args.bytes.now in
    let name = c.args.name.now in
    let split = split-at _ c.loop.left.now c.split_at.result.0.now c.split_at.result.1.now c.in-Some.place.now c.in-Some.behind.now c.split_at.ensures.front c.split_at.ensures.back c.in-Some.ensures.cases.0 in
    let is = ap (λ n. slice_cmp nat_cmp n name) (sym c.name_at.ensures) ∙ sym c.cmp.ensures in
    elim c.match-cmp.branch [
      | in-Less w ↦
          let to = ap (λ r. r.now) w.left-is in
          record {
            same = c.loop.invariant.same ∙ look-behind bytes _ _ _ _ name split c.loop.invariant.sorted (is ∙ w.in-Less.is) ∙ ap (λ ps. places_say bytes ps name None) (sym to);
            sorted = subst (AreSorted bytes) (sym to) (behind-sorted bytes _ _ _ _ name split c.loop.invariant.sorted);
            shorter = omega (arith, c.loop.invariant.shorter, c.in-Some.ensures.cases.1, c.split_at.ensures.back_len, ap length to);
          }
      | in-Greater w ↦
          let to = ap (λ r. r.now) w.left-is in
          record {
            same = c.loop.invariant.same ∙ look-before bytes _ _ _ _ name split c.loop.invariant.sorted (is ∙ w.in-Greater.is) ∙ ap (λ ps. places_say bytes ps name None) (sym to);
            sorted = subst (AreSorted bytes) (sym to) (front-sorted bytes _ _ _ _ name split c.loop.invariant.sorted);
            shorter = omega (arith, c.loop.invariant.shorter, c.in-Some.ensures.cases.1, c.split_at.ensures.front_len, c.split_at.ensures.back_len, ap length to);
          }
    ]
