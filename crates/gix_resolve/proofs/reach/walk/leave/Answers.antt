use Rattle.std.proofs.Common.{◌≡◌, ◌∙◌, ◌-◌, sym, ap, cond, min, refl, true, false, rules}
use Rattle.std.proofs.lemmas.List.Sorted.{IsPermutation-refl}
use Rattle.gix_revwalk.specs.History.{generation_of}
use Rattle.gix_revwalk.specs.Number.{place_in}
use Rattle.gix_revwalk.specs.declared.numbers.Mark.{Mark}
use Rattle.gix_merge_base.specs.Marks.{marks_of}
use Rattle.gix_merge_base.specs.PaintQueue.{id_at, marks_at}
use Rattle.gix_merge_base.specs.declared.merge_base.flags.Flags.{Flags}
use Rattle.gix_merge_base.proofs.Numbered.{same-len}
use Rattle.gix_resolve.specs.ReachSides.{hides}
use Rattle.gix_resolve.specs.ReachWalk.{with_open}
use Rattle.gix_resolve.proofs.ReachNext.{right_left, popped_marks, popped_queue, right_popped}
use Rattle.gix_resolve.proofs.ReachEnter.{held-same}
use Rattle.gix_resolve.proofs.reach.walk.leave.Goals as goal

pub mark_of-old-requires : goal.mark_of-old-requires
mark_of-old-requires g c = c.requires.held.0

pub returns-then-is_hidden-clause-taken : goal.returns-then-is_hidden-clause-taken
returns-then-is_hidden-clause-taken g c =
    let id = id_at c.args.graph.now (place_in c.args.number) in
    let least = c.args.walk.now.least in
    let hidden : hides c.args.walk.now.both (marks_at c.args.graph.now id) ≡ true =
    ap (λ (z : Mark Flags). hides c.args.walk.now.both (marks_of z.marks)) (sym c.mark_of-old.ensures) ∙ sym c.is_hidden.ensures ∙ c.if-is_hidden.true in
    record {
      queue = IsPermutation-refl _;
      least = ap (λ b. cond b least (min least (generation_of (g.S.Find.history c.args.graph.now.source) id))) (sym hidden);
    }

pub returns-then-is_hidden-clause-right : goal.returns-then-is_hidden-clause-right
returns-then-is_hidden-clause-right g c =
    let hidden : hides c.args.walk.now.both (marks_at c.args.graph.now (id_at c.args.graph.now (place_in c.args.number))) ≡ true =
    ap (λ (z : Mark Flags). hides c.args.walk.now.both (marks_of z.marks)) (sym c.mark_of-old.ensures) ∙ sym c.is_hidden.ensures ∙ c.if-is_hidden.true in
    right_left (g.S.Find.history c.args.graph.now.source) c.args.graph.now c.args.generation c.args.number (with_open c.args.generation c.args.number c.args.walk.now) c.args.walk.now.front c.requires (IsPermutation-refl _)
    hidden c.args.walk.now refl refl refl refl

pub returns-then-is_hidden-clause-had : goal.returns-then-is_hidden-clause-had
returns-then-is_hidden-clause-had g c = ap (λ (z : Mark Flags). marks_of z.marks) c.mark_of-old.ensures

pub set_mark-requires : goal.set_mark-requires
set_mark-requires g c = c.requires.held.0

pub release-requires-clause-number : goal.release-requires-clause-number
release-requires-clause-number g c = rw (same-len c.args.graph.now c.set_mark.new.graph c.set_mark.ensures.ids) c.requires.held.0

pub release-requires-clause-held : goal.release-requires-clause-held
release-requires-clause-held g c = held-same c.args.graph.now c.set_mark.new.graph c.set_mark.ensures.ids c.args.walk.now.front c.requires.held.1

pub returns-clause-taken : goal.returns-clause-taken
returns-clause-taken g c =
    let id = id_at c.args.graph.now (place_in c.args.number) in
    let least = c.args.walk.now.least in
    let free : hides c.args.walk.now.both (marks_at c.args.graph.now id) ≡ false =
    ap (λ (z : Mark Flags). hides c.args.walk.now.both (marks_of z.marks)) (sym c.mark_of-old.ensures) ∙ sym c.is_hidden.ensures ∙ c.if-is_hidden.false in
    let less : c.min-walk.result ≡ min least c.args.generation = search rules in
    record {
      queue = rw c.release.ensures (popped_queue (g.S.Find.history c.args.graph.now.source) c.args.graph.now c.args.generation c.args.number (with_open c.args.generation c.args.number c.args.walk.now) c.args.walk.now.front c.requires (IsPermutation-refl _)
          c.set_mark.new.graph c.mark_of-old.result _ c.mark_of-old.ensures free c.set_mark.ensures);
      least = less ∙ ap (min least) c.requires.keyed.0 ∙ ap (λ b. cond b least (min least (generation_of (g.S.Find.history c.args.graph.now.source) id))) (sym free);
    }

pub returns-clause-right : goal.returns-clause-right
returns-clause-right g c =
    let free : hides c.args.walk.now.both (marks_at c.args.graph.now (id_at c.args.graph.now (place_in c.args.number))) ≡ false =
    ap (λ (z : Mark Flags). hides c.args.walk.now.both (marks_of z.marks)) (sym c.mark_of-old.ensures) ∙ sym c.is_hidden.ensures ∙ c.if-is_hidden.false in
    let less : c.saturating_sub-queued.result ≡ c.mark_of-old.result.queued - 1 = search rules in
    let fewer : c.saturating_sub-walk.result ≡ c.args.walk.now.unhidden - 1 = search rules in
    right_popped (g.S.Find.history c.args.graph.now.source) c.args.graph.now c.args.generation c.args.number (with_open c.args.generation c.args.number c.args.walk.now) c.args.walk.now.front c.requires (IsPermutation-refl _)
    c.set_mark.new.graph c.mark_of-old.result c.saturating_sub-queued.result c.mark_of-old.ensures free c.set_mark.ensures less _ refl refl c.release.ensures fewer

pub returns-clause-had : goal.returns-clause-had
returns-clause-had g c = ap (λ (z : Mark Flags). marks_of z.marks) c.mark_of-old.ensures

pub returns-clause-marks : goal.returns-clause-marks
returns-clause-marks g c =
    let free : hides c.args.walk.now.both (marks_at c.args.graph.now (id_at c.args.graph.now (place_in c.args.number))) ≡ false =
    ap (λ (z : Mark Flags). hides c.args.walk.now.both (marks_of z.marks)) (sym c.mark_of-old.ensures) ∙ sym c.is_hidden.ensures ∙ c.if-is_hidden.false in
    popped_marks (g.S.Find.history c.args.graph.now.source) c.args.graph.now c.args.generation c.args.number (with_open c.args.generation c.args.number c.args.walk.now) c.args.walk.now.front c.requires (IsPermutation-refl _)
    c.set_mark.new.graph c.mark_of-old.result c.saturating_sub-queued.result c.mark_of-old.ensures free c.set_mark.ensures
