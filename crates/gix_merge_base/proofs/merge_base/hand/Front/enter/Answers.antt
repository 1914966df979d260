use Rattle.std.proofs.Common.{◌≡◌, ◌<◌, ◌+◌, ◌-◌, sym, ap, subst, ◌∙◌, ◌∷◌, ◌||◌, true, cond, not, rules}
use Rattle.gix_base.specs.declared.hash.ObjectId.{ObjectId}
use Rattle.gix_revwalk.specs.History.{same_id}
use Rattle.gix_revwalk.specs.Graph.{held_len}
use Rattle.gix_revwalk.specs.Number.{place_in}
use Rattle.gix_revwalk.specs.declared.numbers.Mark.{Mark}
use Rattle.gix_revwalk.proofs.Ids.{same_id-true}
use Rattle.gix_merge_base.specs.Marks.{MarkSet, marks_of, joined}
use Rattle.gix_merge_base.specs.Counting.{Counts, CountsUnmet, open_then}
use Rattle.gix_merge_base.specs.PaintQueue.{marks_at, queued_at, queued_ids, id_at, key_in}
use Rattle.gix_merge_base.specs.declared.merge_base.flags.Flags.{Flags}
use Rattle.gix_merge_base.proofs.Counting.{counts_hand, unmet_hand}
use Rattle.gix_merge_base.proofs.Numbered.{same-len, held-permutation, ids-pushed, given-marks, given-queued, joined-at, stays-stale, named-id}
use Rattle.gix_merge_base.proofs.QueueKeys.{keyed-pushed}
use Rattle.gix_merge_base.proofs.merge_base.hand.Front.enter.Goals as goal

pub returns-clause-enters : goal.returns-clause-enters
returns-clause-enters g c =
    let old_graph = c.args.graph.now in
    let new_graph = c.set_mark.new.graph in
    let id = id_at old_graph (place_in c.args.number) in
    let m = marks_at old_graph in
    let w = c.joined-new.result in
    let is : marks_of w ≡ joined (marks_of c.args.marks) (m id) = c.joined-new.ensures ∙ ap (λ (z : Mark Flags). joined (marks_of c.args.marks) (marks_of z.marks)) c.requires.had in
    record {
      marks = joined-at m id (marks_of c.args.marks) (marks_of w) is (marks_at new_graph) (given-marks old_graph new_graph (place_in c.args.number) (record { marks = w; queued = c.in-Some.queued }) c.requires.number c.set_mark.ensures) (λ d e. same_id-true id d e);
      queue = ids-pushed old_graph new_graph c.set_mark.ensures.ids c.from-key.result c.args.number c.args.self.now.queue c.insert.new.self c.in-Ok.ensures.ok;
    }

pub returns-clause-keeps : goal.returns-clause-keeps
returns-clause-keeps g c =
    let h = g.S.Find.history c.args.graph.now.source in
    let old_graph = c.args.graph.now in
    let new_graph = c.set_mark.new.graph in
    let id = id_at old_graph (place_in c.args.number) in
    let m = marks_at old_graph in
    let n = queued_at old_graph in
    let w = c.joined-new.result in
    let queue = c.args.self.now.queue in
    let o = c.args.self.now.open_entries in
    let more : c.in-Some.queued ≡ c.args.old.queued + 1 = search rules in
    let eq : c.open_after-self.result ≡ cond (not (marks_of w).stale) (o + 1) (cond (m id).stale o (o - n id)) = c.open_after-self.ensures ∙ ap (λ z. open_then o z w) c.requires.had in
    let is : marks_of w ≡ joined (marks_of c.args.marks) (m id) = c.joined-new.ensures ∙ ap (λ (z : Mark Flags). joined (marks_of c.args.marks) (marks_of z.marks)) c.requires.had in
    let marks = given-marks old_graph new_graph (place_in c.args.number) (record { marks = w; queued = c.in-Some.queued }) c.requires.number c.set_mark.ensures in
    let often : (d : ObjectId) → queued_at new_graph d ≡ cond (same_id id d) (n id + 1) (n d) =
    λ d. given-queued old_graph new_graph (place_in c.args.number) (record { marks = w; queued = c.in-Some.queued }) c.requires.number c.set_mark.ensures d
    ∙ ap (λ z. cond (same_id id d) z (n d)) (more ∙ ap (λ (z : Mark Flags). z.queued + 1) c.requires.had) in
    let agrees = c.value.ensures.agrees id (named-id old_graph (place_in c.args.number) c.requires.number) in
    record {
      queued = λ k. record {
        held = rw (same-len old_graph new_graph c.set_mark.ensures.ids) (held-permutation (λ p. place_in p.1 < held_len old_graph) ((c.from-key.result, c.args.number) ∷ queue) c.insert.new.self c.in-Ok.ensures.ok (c.requires.number, k.held));
        keyed = keyed-pushed h old_graph new_graph c.set_mark.ensures.ids c.from-key.result c.args.number queue c.insert.new.self (c.from-key.ensures ∙ ap key_in (sym agrees)) c.in-Ok.ensures.ok k.keyed;
      };
      counts = λ k. subst (λ z. Counts (marks_at new_graph) (queued_at new_graph) (queued_ids new_graph c.insert.new.self) z) (sym eq)
          (counts_hand m (marks_at new_graph) n (queued_at new_graph) (queued_ids old_graph queue) (queued_ids new_graph c.insert.new.self) id (marks_of w) marks often
          (ids-pushed old_graph new_graph c.set_mark.ensures.ids c.from-key.result c.args.number queue c.insert.new.self c.in-Ok.ensures.ok)
          o k (stays-stale (marks_of c.args.marks) (m id) (marks_of w) is));
      left = λ stale ids k.
          let turned : (marks_of w).stale ≡ true = ap (λ (z : MarkSet). z.stale) is ∙ ap (λ b. b || (m id).stale) stale in
          subst (λ z. CountsUnmet (marks_at new_graph) (queued_at new_graph) ids z) (sym eq)
          (unmet_hand m (marks_at new_graph) n (queued_at new_graph) ids id (marks_of w) o marks often turned k);
    }
