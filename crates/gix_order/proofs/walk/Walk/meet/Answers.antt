use Rattle.std.proofs.Common.{◌≡◌, rules, refl, w64, SFits, to_z, of_z, ◌∙◌}
use Rattle.std.proofs.lemmas.Bool.{false≢true}
use Rattle.std.proofs.lemmas.Int.{to_z-of_z}
use Rattle.gix_order.specs.Orders.{listed}
use Rattle.gix_order.proofs.Meeting.{meets_again, meets_last}
use Rattle.gix_order.proofs.walk.Walk.meet.Goals as goal

pub returns-then-not-take_one : goal.returns-then-not-take_one
returns-then-not-take_one c =
    meets_again (listed c.args.commits.now) c.args.self.now _ c.args.place c.take_one.ensures.after refl (search rules) refl (λ z. false≢true (c.if-not-take_one.ensures.last.1 z))

pub returns : goal.returns
returns c =
    let l = listed c.args.commits.now in
    let small : SFits w64 c.time.result = search rules in
    let time : to_z w64 (of_z w64 c.time.result) ≡ l.time c.args.place = to_z-of_z w64 c.time.result small ∙ c.time.ensures in
    meets_last l c.args.self.now _ c.args.place _ c.take_one.ensures.after (search rules) refl (c.if-not-take_one.ensures.last.0 refl) refl refl time c.in_ok-push.ensures.added c.push.ensures.kept c.in_ok-push.ensures.sound
