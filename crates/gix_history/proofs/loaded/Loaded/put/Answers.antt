use Rattle.std.proofs.Common.{◌≡◌, ◌∙◌, Some, List, take, sym, ap, subst, refl, arith}
use Rattle.std.proofs.lemmas.List.{take_all}
use Rattle.gix_base.specs.declared.hash.ObjectId.{ObjectId}
use Rattle.gix_revwalk.specs.History.{History, Entry, is_one_of}
use Rattle.gix_history.specs.Waiting.{IsPending}
use Rattle.gix_history.proofs.Settled.{levels-same, level-noted, put-level, put-loaded}
use Rattle.gix_history.proofs.loaded.Loaded.put.Goals as goal

pub invariant_of-self-in-Err : goal.invariant_of-self-in-Err
invariant_of-self-in-Err g c =
    rw c.in-Err.ensures.refused (levels-same c.self.inside.commits c.self.inside.levels.entries c.reserve.new.self.entries c.reserve.ensures.entries.2 c.self.invariant)

pub invariant_of-self-2 : goal.invariant_of-self-2
invariant_of-self-2 g c =
    let p = c.args.pending in
    let h : History = c.self.inside.commits in
    let n : History = c.insert.new.self in
    let d : Entry = record { parents = p.commit.parents.items; time = p.commit.time; generation = Some p.level } in
    let waits : IsPending h p = subst (λ (k : History). IsPending k p) (sym c.self.view_is) c.requires.pending in
    let all : take p.settled p.commit.parents.items ≡ p.commit.parents.items = take_all p.settled p.commit.parents.items (omega (arith, c.requires.all)) in
    let reserved = levels-same h c.self.inside.levels.entries c.reserve.new.self.entries c.reserve.ensures.entries.2 c.self.invariant in
    let put = put-loaded h n p.id d p.level c.in-Ok.ensures.new c.in-Ok.ensures.put c.reserve.new.self.entries refl (omega arith)
    (λ q m. waits.below q (ap (λ (ps : List ObjectId). is_one_of ps q) all ∙ m)) waits.authentic reserved in
    level-noted n c.reserve.new.self.entries c.insert-2.new.self.entries p.id p.level
    (put-level h n p.id d p.level c.in-Ok.ensures.new c.in-Ok.ensures.put refl (omega arith)) c.in_ok-insert.ensures.updates.0 put
