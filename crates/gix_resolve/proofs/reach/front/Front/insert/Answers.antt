use Rattle.std.proofs.Common.{◌∷◌, ◌++◌, arith, ◌-◌, ◌^◌, ◌≤◌}
use Rattle.gix_merge_base.proofs.Numbered.{held-permutation}
use Rattle.gix_resolve.proofs.ReachFront.{other_joined}
use Rattle.gix_resolve.proofs.reach.front.Front.insert.Goals as goal

pub returns-then-generation-eq4294967295 : goal.returns-then-generation-eq4294967295
returns-then-generation-eq4294967295 g c = rw c.if-generation-eq4294967295.true c.insert_greatest.ensures

pub invariant_of-self-2 : goal.invariant_of-self-2
invariant_of-self-2 g c = held-permutation (λ p. p.0 ≤ 2 ^ 32 - 1) ((c.args.generation, c.args.number) ∷ c.self.inside.others) c.insert.new.self c.in-Ok.ensures.ok (omega arith, c.self.invariant)

pub returns : goal.returns
returns g c = rw (← c.self.view_is) (other_joined (c.self.inside.hidden.items ++ (c.self.inside.waiting.items ++ c.self.inside.greatest.items)) (c.args.generation, c.args.number) c.self.inside.others c.insert.new.self c.in-Ok.ensures.ok)
