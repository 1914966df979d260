use Rattle.std.proofs.Common.{ℕ, ◌<◌, ◌≤◌, length, slice_index, ap, ◌∙◌, subst, arith}
use Rattle.std.proofs.lemmas.List.{take_all}
use Rattle.gix_order.specs.Orders.{listed, places}
use Rattle.gix_order.specs.Walks.{Meets}
use Rattle.gix_order.proofs.Lists.{length-places}
use Rattle.gix_order.proofs.Meeting.{meets_none, meets_more}
use Rattle.gix_order.proofs.walk.Walk.meet_list.Goals as goal

pub loop-k-init : goal.loop-k-init
loop-k-init c = meets_none (listed c.args.commits.now) c.args.self.now

pub loop-k-preserved : goal.loop-k-preserved
loop-k-preserved c =
    let l = listed c.args.commits.now in
    let k = c.loop-k.k in
    let list = places c.args.order l.count in
    let len = length-places c.args.order l.count in
    let there : k < length list = omega arith in
    let place = c.place_at.ensures ∙ ap (λ (n : ℕ). slice_index (places c.args.order n) k) c.len.ensures in
    meets_more l list k _ c.args.self.now c.loop-k.self c.meet.new.self there place c.loop-k.invariant c.in_ok-meet.ensures

pub returns : goal.returns
returns c =
    let l = listed c.args.commits.now in
    let list = places c.args.order l.count in
    let len = length-places c.args.order l.count in
    let end : length list ≤ c.loop-k.k = omega arith in
    subst (λ z. Meets l z c.args.self.now c.loop-k.self) (take_all c.loop-k.k list end) c.loop-k.invariant
