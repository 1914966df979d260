use Rattle.std.proofs.Common.{◌≡◌, ◌∷◌, map, false}
use Rattle.std.specs.Ordering.{is_lt}
use Rattle.std.proofs.lemmas.List.Elements.{All-map}
use Rattle.std.proofs.lemmas.List.Sorted.{IsPermutation-map, IsPermutation-refl}
use Rattle.gix_describe.specs.declared.describe.key.Key.{Key}
use Rattle.gix_describe.specs.declared.describe.met.Met.{Met}
use Rattle.gix_describe.specs.Handing.{key_order}
use Rattle.gix_describe.specs.Queued.{entry_of}
use Rattle.gix_describe.proofs.Queued.{alone_first}
use Rattle.gix_describe.proofs.describe.queue.Queue.pop.Goals as goal

pub returns-in-Some-clause-taken : goal.returns-in-Some-clause-taken
returns-in-Some-clause-taken g c = rw (c.commit_at.ensures, ← c.self.view_is, c.in-Some.is) (IsPermutation-refl (map entry_of ((c.in-Some.key, c.in-Some.place) ∷ c.self.inside.places)))

pub returns-in-Some-clause-greatest : goal.returns-in-Some-clause-greatest
returns-in-Some-clause-greatest g c = rw (c.commit_at.ensures, ← c.self.view_is, c.in-Some.is) (alone_first c.in-Some.key c.in-Some.place c.self.inside.places (rw c.in-Some.is at c.self.invariant))

pub returns-clause-taken : goal.returns-clause-taken
returns-clause-taken g c = rw (c.commit_at-2.ensures, ← c.self.view_is, c.in_default.is) (IsPermutation-map entry_of c.self.inside.places _ c.in_ok-key.ensures.taken)

pub returns-clause-greatest : goal.returns-clause-greatest
returns-clause-greatest g c =
    rw (c.commit_at-2.ensures, ← c.self.view_is, c.in_default.is) (All-map (λ (p : Key × Met). is_lt (key_order c.in_ok-key.key p.0) ≡ false) entry_of c.self.inside.places c.in_ok-key.ensures.greatest)
