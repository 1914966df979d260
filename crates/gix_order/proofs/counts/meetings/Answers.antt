use Rattle.std.proofs.Common.{◌≡◌, ℕ, [], List, ap, ◌∙◌, refl, arith}
use Rattle.gix_order.specs.Orders.{listed}
use Rattle.gix_order.specs.Counts.{times_in}
use Rattle.gix_order.proofs.Times.{sum_over_more}
use Rattle.gix_order.proofs.counts.meetings.Goals as goal

pub loop-place-preserved : goal.loop-place-preserved
loop-place-preserved c =
    let l = listed c.args.commits.now in
    let place = c.loop-place.place in
    record {
      len = c.in_ok-add_all.ensures.len ∙ c.loop-place.invariant.len;
      links = λ p h.
          let more = sum_over_more place [] (λ k. times_in (l.parents k) p) refl in
          let old = c.loop-place.invariant.links p h in
          let sum = c.in_ok-add_all.ensures.sums p (omega (arith, c.loop-place.invariant.len)) in
          let named : times_in c.parents.result.now p ≡ times_in (l.parents place) p = ap (λ (z : List ℕ). times_in z p) c.parents.ensures in
          omega arith;
    }
