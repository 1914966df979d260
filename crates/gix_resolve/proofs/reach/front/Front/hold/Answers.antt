use Rattle.std.proofs.Common.{◌≡◌, length, arith, sym}
use Rattle.std.proofs.lemmas.Bool.Decides.{Decides-eqb}
use Rattle.gix_resolve.proofs.ReachFront.{held}
use Rattle.gix_resolve.proofs.reach.front.Front.hold.Goals as goal

pub returns : goal.returns
returns g c =
    let zero = (Decides-eqb _ 0).0 (sym c.if-not-is_empty.ensures) in
    let len = c.self.inside.waiting.ok.0 in
    let none : length c.self.inside.waiting.items ≡ 0 = omega arith in
    rw (← c.self.view_is, c.swap.ensures.x_after, c.swap.ensures.y_after) (held c.self.inside.hidden.items c.self.inside.waiting.items c.self.inside.greatest.items c.self.inside.others none)
