use Rattle.std.proofs.Common.{◌∷◌, ◌∙◌, sym}
use Rattle.std.proofs.lemmas.List.Sorted.{IsPermutation-refl}
use Rattle.gix_describe.proofs.Queued.{commit_in, none_in, place_in_queue}
use Rattle.gix_describe.proofs.describe.queue.Queue.insert.Goals as goal

pub returns-in-Some : goal.returns-in-Some
returns-in-Some g c = rw (← c.self.view_is, c.in-Some.is) (record { ok = commit_in c.args.key c.args.met _ _ c.requires c.in_ok-put_both.ensures })

pub invariant_of-self-then-is_empty : goal.invariant_of-self-then-is_empty
invariant_of-self-then-is_empty g c = none_in c.self.inside.places (sym c.is_empty.ensures ∙ c.if-is_empty.true)

pub returns-then-is_empty : goal.returns-then-is_empty
returns-then-is_empty g c = rw (← c.self.view_is, c.in_default.is) (record { ok = commit_in c.args.key c.args.met _ _ c.requires (IsPermutation-refl ((c.args.key, place_in_queue c.args.met) ∷ c.self.inside.places)) })

pub returns : goal.returns
returns g c = rw (← c.self.view_is, c.in_default.is) (record { ok = commit_in c.args.key c.args.met _ _ c.requires c.in_ok-put.ensures })
