use Rattle.std.proofs.Common.{◌≡◌, ◌∙◌, ◌-◌, ◌<◌, refl, sym, ap, subst, cond, rules, arith}
use Rattle.gix_revwalk.specs.History.{same_id}
use Rattle.gix_revwalk.specs.Graph.{held_len}
use Rattle.gix_revwalk.specs.Number.{place_in}
use Rattle.gix_revwalk.specs.declared.numbers.Mark.{Mark}
use Rattle.gix_merge_base.specs.declared.merge_base.flags.Flags.{Flags}
use Rattle.gix_merge_base.specs.Marks.{marks_of}
use Rattle.gix_merge_base.specs.Counting.{Counts}
use Rattle.gix_merge_base.specs.PaintQueue.{marks_at, queued_at, queued_ids, id_at}
use Rattle.gix_merge_base.proofs.Counting.{counts_popped}
use Rattle.gix_merge_base.proofs.Numbered.{held-permutation, same-len, ids-popped, same-marks, given-marks, given-queued}
use Rattle.gix_merge_base.proofs.QueueKeys.{keyed-popped}
use Rattle.gix_merge_base.proofs.KeyCmp.{takes_top}
use Rattle.gix_merge_base.proofs.merge_base.hand.Front.pop_open.Goals as goal

pub mark_of-old-requires : goal.mark_of-old-requires
mark_of-old-requires g c = (held-permutation (λ p. place_in p.1 < held_len c.args.graph.now) c.args.self.now.queue _ c.in_ok-number.ensures.taken c.requires.queued.held).0

pub set_mark-requires : goal.set_mark-requires
set_mark-requires g c = (held-permutation (λ p. place_in p.1 < held_len c.args.graph.now) c.args.self.now.queue _ c.in_ok-number.ensures.taken c.requires.queued.held).0

pub returns-in_err-number-clause-stays : goal.returns-in_err-number-clause-stays
returns-in_err-number-clause-stays g c none = (refl, ap (λ q. record { queue = q; open_entries = c.args.self.now.open_entries }) (c.in_err-number.ensures.same refl))

pub returns-clause-pops : goal.returns-clause-pops
returns-clause-pops g c =
    let h = g.S.Find.history c.args.graph.now.source in
    let old_graph = c.args.graph.now in
    let new_graph = c.set_mark.new.graph in
    let queue = c.args.self.now.queue in
    let rest = c.pop.new.self in
    let o = c.args.self.now.open_entries in
    let key = c.in_ok-number.field-0-0 in
    let number = c.in_ok-number.number in
    let taken = c.in_ok-number.ensures.taken in
    let same = c.set_mark.ensures.ids in
    let all = held-permutation (λ p. place_in p.1 < held_len old_graph) queue _ taken c.requires.queued.held in
    let id = id_at old_graph (place_in number) in
    let less : c.saturating_sub.result ≡ c.mark_of-old.result.queued - 1 = search rules in
    let eq : c.open_without-self.result ≡ cond (marks_at old_graph id).stale o (o - 1) = c.open_without-self.ensures ∙ ap (λ (z : Mark Flags). cond (marks_of z.marks).stale o (o - 1)) c.mark_of-old.ensures in
    let marks = same-marks (marks_at old_graph) (marks_at new_graph) id (marks_of c.mark_of-old.result.marks) (ap (λ (z : Mark Flags). marks_of z.marks) c.mark_of-old.ensures) (given-marks old_graph new_graph (place_in number) _ all.0 c.set_mark.ensures) in
    let left = ids-popped old_graph new_graph same key number queue rest taken in
    record {
      some = omega (arith, c.requires.counts.unstale);
      inside = rw (same-len old_graph new_graph same) all.0;
      queue = left;
      top = takes_top h old_graph key number queue rest taken c.in_ok-number.ensures.greatest c.requires.queued.keyed;
      marks = marks;
      right = record {
        queued = record {
          held = rw (same-len old_graph new_graph same) all.1;
          keyed = keyed-popped h old_graph new_graph same key number queue rest taken c.requires.queued.keyed;
        };
        counts = subst (λ z. Counts (marks_at new_graph) (queued_at new_graph) (queued_ids new_graph rest) z) (sym eq)
            (counts_popped (marks_at old_graph) (marks_at new_graph) (queued_at old_graph) (queued_at new_graph) (queued_ids old_graph queue) (queued_ids new_graph rest) id o marks
            (λ d. given-queued old_graph new_graph (place_in number) _ all.0 c.set_mark.ensures d
            ∙ ap (λ z. cond (same_id id d) z (queued_at old_graph d)) (less ∙ ap (λ (z : Mark Flags). z.queued - 1) c.mark_of-old.ensures))
            left c.requires.counts);
      };
    }
