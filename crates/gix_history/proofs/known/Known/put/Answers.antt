use Rattle.std.proofs.Common.{◌≡◌, ◌∙◌, None, ap}
use Rattle.gix_revwalk.specs.Held.{entry_of}
use Rattle.gix_revwalk.specs.History.{entry_at}
use Rattle.gix_history.specs.Grown.{Sourced}
use Rattle.gix_history.proofs.Grown.{note-grows, note-sourced, put-grows, put-sourced, put-from-objects}
use Rattle.gix_history.proofs.known.Known.put.Goals as goal

pub returns-clause-grown : goal.returns-clause-grown
returns-clause-grown g c =
    rw (← c.self.view_is) (put-grows c.self.inside.commits c.self.inside.origins.entries c.insert.new.self.entries c.args.id c.args.read.origin c.in-Ok.ensures.new c.in_ok-insert.ensures.updates.0
    c.insert-2.new.self (entry_of c.args.read.commit) c.in-Ok.ensures.put)

pub returns-in-Err-clause-grown : goal.returns-in-Err-clause-grown
returns-in-Err-clause-grown g c =
    let lacks : entry_at c.self.inside.commits c.args.id ≡ None = ap (λ (k : Sourced). entry_at k.commits c.args.id) c.self.view_is ∙ c.requires.new in
    rw (← c.self.view_is) (rw c.in-Err.ensures.refused
    (note-grows c.self.inside.commits c.self.inside.origins.entries c.insert.new.self.entries c.args.id c.args.read.origin lacks c.in_ok-insert.ensures.updates.0))

pub invariant_of-self-in-Err : goal.invariant_of-self-in-Err
invariant_of-self-in-Err g c =
    let lacks : entry_at c.self.inside.commits c.args.id ≡ None = ap (λ (k : Sourced). entry_at k.commits c.args.id) c.self.view_is ∙ c.requires.new in
    rw c.in-Err.ensures.refused (
      note-sourced c.self.inside.commits c.self.inside.origins.entries c.insert.new.self.entries c.args.id c.args.read.origin lacks c.in_ok-insert.ensures.updates.0 c.self.invariant.0,
      λ none. c.self.invariant.1 (c.foreign_after-self-inside.ensures.foreign none),
    )

pub invariant_of-self-2 : goal.invariant_of-self-2
invariant_of-self-2 g c = (
  put-sourced c.self.inside.commits c.self.inside.origins.entries c.insert.new.self.entries c.args.id c.args.read.origin c.in-Ok.ensures.new c.in_ok-insert.ensures.updates.0 c.insert-2.new.self
      (entry_of c.args.read.commit) c.in-Ok.ensures.put c.requires.from c.self.invariant.0,
  λ none. put-from-objects c.self.inside.commits c.self.inside.origins.entries c.insert.new.self.entries c.args.id c.args.read.origin c.in-Ok.ensures.new c.in_ok-insert.ensures.updates.0 c.insert-2.new.self
      (entry_of c.args.read.commit) c.in-Ok.ensures.put (c.foreign_after-self-inside.ensures.object none) (c.self.invariant.1 (c.foreign_after-self-inside.ensures.foreign none)),
)
