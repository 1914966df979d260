use Rattle.std.proofs.Common.{◌∷◌, ◌++◌, ◌-◌, ◌^◌, ◌≤◌, refl}
use Rattle.gix_merge_base.proofs.Numbered.{held-permutation}
use Rattle.gix_resolve.proofs.ReachFront.{greatest_left, none_above, greatest_at_most}
use Rattle.gix_resolve.proofs.reach.front.Front.pop.Goals as goal

pub returns-in-Some-clause-taken : goal.returns-in-Some-clause-taken
returns-in-Some-clause-taken g c = rw (← c.self.view_is) (greatest_left _ _ c.in-Some.number c.self.inside.others c.in-Some.ensures.taken)

pub returns-in-Some-clause-greatest : goal.returns-in-Some-clause-greatest
returns-in-Some-clause-greatest g c = rw (← c.self.view_is) (none_above (c.self.inside.hidden.items ++ (c.self.inside.waiting.items ++ c.self.inside.greatest.items)) c.self.inside.others c.self.invariant)

pub invariant_of-self-2 : goal.invariant_of-self-2
invariant_of-self-2 g c = (held-permutation (λ p. p.0 ≤ 2 ^ 32 - 1) c.self.inside.others ((c.in_ok-generation.generation, c.in_ok-generation.number) ∷ c.pop.new.self) c.in_ok-generation.ensures.taken c.self.invariant).1

pub returns-clause-greatest : goal.returns-clause-greatest
returns-clause-greatest g c =
    let none = c.in_default.ensures.none refl in
    rw (← c.self.view_is, none.0) (greatest_at_most c.in_ok-generation.generation c.self.inside.others c.in_ok-generation.ensures.greatest)

pub invariant_of-self : goal.invariant_of-self
invariant_of-self g c = c.self.invariant
