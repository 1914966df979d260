use Rattle.std.proofs.Common.{◌≡◌, sym, ap, subst, ◌∙◌, [], ◌∷◌, ◌++◌, ◌+◌, cond, true, false, is_some, rules, arith}
use Rattle.std.proofs.lemmas.List.{append-nil}
use Rattle.std.specs.Option.{unwrap_or}
use Rattle.gix_base.specs.declared.hash.ObjectId.{ObjectId}
use Rattle.gix_revwalk.specs.History.{entry_at, same_id}
use Rattle.gix_merge_base.specs.Counting.{times}
use Rattle.gix_merge_base.proofs.Counting.{times_one}
use Rattle.gix_revwalk.specs.Number.{place_in}
use Rattle.gix_revwalk.specs.declared.numbers.Mark.{Mark}
use Rattle.gix_merge_base.specs.Marks.{marks_of}
use Rattle.gix_merge_base.specs.PaintQueue.{marks_at, queued_at, ids_at, id_at, AreIn, no_mark}
use Rattle.gix_merge_base.specs.declared.merge_base.flags.Flags.{Flags}
use Rattle.gix_merge_base.proofs.Fronts.{numbers_then}
use Rattle.gix_merge_base.proofs.Listed.{listed-grown, listed-same, listed-push}
use Rattle.gix_merge_base.proofs.Numbered.{given-marks, given-queued, same-marks}
use Rattle.gix_merge_base.proofs.QueueKeys.{number-id, kept-grown, kept-same}
use Rattle.gix_revwalk.proofs.Growth.{more-taken}
use Rattle.gix_merge_base.proofs.QueueKeys.{holds-after}
use Rattle.gix_merge_base.proofs.merge_base.reduction.list_one.Goals as goal

pub returns-in-Ok-None-clause-listed : goal.returns-in-Ok-None-clause-listed
returns-in-Ok-None-clause-listed g c all =
    let old = c.args.graph.now in
    let mid = c.take.new.graph in
    let taken = rw c.in-Ok-None.field-0-is at c.in-Ok-None.ensures in
    let grown = listed-grown old mid taken.grows c.args.numbers.now.items all in
    let lacks : is_some (entry_at (g.S.Find.history old.source) c.args.id) ≡ false = sym taken.has in
    (grown.0, grown.1 ∙ sym (ap (λ b. ids_at old c.args.numbers.now.items ++ cond b (c.args.id ∷ []) []) lacks ∙ append-nil (ids_at old c.args.numbers.now.items)))

pub returns-clause-listed : goal.returns-clause-listed
returns-clause-listed g c all =
    let h = g.S.Find.history c.args.graph.now.source in
    let old = c.args.graph.now in
    let mid = c.take.new.graph in
    let new = c.set_mark.new.graph in
    let taken = rw c.in-Ok-Some.field-0-is at c.in-Ok-Some.ensures in
    let number = number-id mid c.args.id (place_in c.in-Ok-Some.number) taken.number in
    let has : is_some (entry_at h c.args.id) ≡ true = sym taken.has in
    let grown = listed-grown old mid taken.grows c.args.numbers.now.items all in
    let more = listed-push mid c.args.numbers.now.items c.in-Ok-Some.number c.args.id grown.0 number.0 number.1 in
    let pushed = listed-same mid new c.set_mark.ensures.ids (c.args.numbers.now.items ++ c.in-Ok-Some.number ∷ []) more.0 in
    subst (λ l. AreIn new l × (ids_at new l ≡ ids_at old c.args.numbers.now.items ++ cond (is_some (entry_at h c.args.id)) (c.args.id ∷ []) [])) (sym c.in-Ok.ensures.items)
    (pushed.0, pushed.1 ∙ more.1 ∙ ap (λ l. l ++ c.args.id ∷ []) grown.1 ∙ sym (ap (λ b. ids_at old c.args.numbers.now.items ++ cond b (c.args.id ∷ []) []) has))

pub mark_of-old-requires : goal.mark_of-old-requires
mark_of-old-requires g c = let taken = rw c.in-Ok-Some.field-0-is at c.in-Ok-Some.ensures in (number-id c.take.new.graph c.args.id (place_in c.in-Ok-Some.number) taken.number).0

pub set_mark-requires : goal.set_mark-requires
set_mark-requires g c = let taken = rw c.in-Ok-Some.field-0-is at c.in-Ok-Some.ensures in (number-id c.take.new.graph c.args.id (place_in c.in-Ok-Some.number) taken.number).0

pub returns-clause-marks : goal.returns-clause-marks
returns-clause-marks g c d =
    let mid = c.take.new.graph in
    let new = c.set_mark.new.graph in
    let taken = rw c.in-Ok-Some.field-0-is at c.in-Ok-Some.ensures in
    let lt = (number-id mid c.args.id (place_in c.in-Ok-Some.number) taken.number).0 in
    let id = id_at mid (place_in c.in-Ok-Some.number) in
    same-marks (marks_at mid) (marks_at new) id (marks_of c.mark_of-old.result.marks) (ap (λ (z : Mark Flags). marks_of z.marks) c.mark_of-old.ensures)
    (given-marks mid new (place_in c.in-Ok-Some.number) _ lt c.set_mark.ensures) d
    ∙ ap (λ o. marks_of (unwrap_or o no_mark).marks) (taken.marks d)

pub returns-in-Ok-None-clause-counted : goal.returns-in-Ok-None-clause-counted
returns-in-Ok-None-clause-counted g c d =
    let old = c.args.graph.now in
    let taken = rw c.in-Ok-None.field-0-is at c.in-Ok-None.ensures in
    let lacks : is_some (entry_at (g.S.Find.history old.source) c.args.id) ≡ false = sym taken.has in
    let none : queued_at old d + times d [] ≡ queued_at old d = omega arith in
    ap (λ o. (unwrap_or o no_mark).queued) (taken.marks d) ∙ sym (ap (λ b. queued_at old d + times d (cond b (c.args.id ∷ []) [])) lacks ∙ none)

pub returns-clause-counted : goal.returns-clause-counted
returns-clause-counted g c d =
    let old = c.args.graph.now in
    let mid = c.take.new.graph in
    let new = c.set_mark.new.graph in
    let number = c.in-Ok-Some.number in
    let taken = rw c.in-Ok-Some.field-0-is at c.in-Ok-Some.ensures in
    let named = number-id mid c.args.id (place_in number) taken.number in
    let id = id_at mid (place_in number) in
    let one : c.in-Some.queued ≡ c.mark_of-old.result.queued + 1 = search rules in
    let queued : (q : ObjectId) → queued_at new q ≡ cond (same_id id q) (queued_at mid id + 1) (queued_at mid q) =
    λ q. given-queued mid new (place_in number) _ named.0 c.set_mark.ensures q ∙ ap (λ z. cond (same_id id q) z (queued_at mid q)) (one ∙ ap (λ (z : Mark Flags). z.queued + 1) c.mark_of-old.ensures) in
    let has : is_some (entry_at (g.S.Find.history old.source) c.args.id) ≡ true = sym taken.has in
    let all : times d (cond (is_some (entry_at (g.S.Find.history old.source) c.args.id)) (c.args.id ∷ []) []) ≡ times d (id ∷ []) = ap (λ b. times d (cond b (c.args.id ∷ []) [])) has ∙ ap (λ z. times d (z ∷ [])) (sym named.1) in
    times_one (queued_at mid) (queued_at new) id queued d ∙ ap (λ n. n + times d (id ∷ [])) (ap (λ o. (unwrap_or o no_mark).queued) (taken.marks d)) ∙ ap (λ n. queued_at old d + n) (sym all)

pub returns-in-Ok-None-clause-numbers : goal.returns-in-Ok-None-clause-numbers
returns-in-Ok-None-clause-numbers g c = let taken = rw c.in-Ok-None.field-0-is at c.in-Ok-None.ensures in listed-grown c.args.graph.now c.take.new.graph taken.grows

pub returns-clause-numbers : goal.returns-clause-numbers
returns-clause-numbers g c =
    let taken = rw c.in-Ok-Some.field-0-is at c.in-Ok-Some.ensures in
    numbers_then c.args.graph.now c.take.new.graph c.set_mark.new.graph (listed-grown c.args.graph.now c.take.new.graph taken.grows) (listed-same c.take.new.graph c.set_mark.new.graph c.set_mark.ensures.ids)

pub returns-clause-after : goal.returns-clause-after
returns-clause-after g c =
    let taken = rw c.in-Ok-Some.field-0-is at c.in-Ok-Some.ensures in
    record {
      graph = record {
        same_history = ap g.S.Find.history c.set_mark.ensures.source ∙ taken.history;
        count = ap g.S.Find.fault_count c.set_mark.ensures.source ∙ taken.count;
        held = λ q k. kept-same c.take.new.graph c.set_mark.new.graph c.set_mark.ensures.ids q (kept-grown c.args.graph.now c.take.new.graph taken.grows q k);
      };
      cause = tt;
    }

pub returns-in-Ok-None-clause-after : goal.returns-in-Ok-None-clause-after
returns-in-Ok-None-clause-after g c =
    let taken = rw c.in-Ok-None.field-0-is at c.in-Ok-None.ensures in
    record { graph = record { same_history = taken.history; count = taken.count; held = kept-grown c.args.graph.now c.take.new.graph taken.grows }; cause = tt }

pub returns-in-Ok-None-clause-holds : goal.returns-in-Ok-None-clause-holds
returns-in-Ok-None-clause-holds g c = let taken = rw c.in-Ok-None.field-0-is at c.in-Ok-None.ensures in more-taken (g.S.Find.history c.args.graph.now.source) c.args.graph.now c.take.new.graph c.args.id _ taken.taken

pub returns-clause-holds : goal.returns-clause-holds
returns-clause-holds g c =
    let taken = rw c.in-Ok-Some.field-0-is at c.in-Ok-Some.ensures in
    holds-after (g.S.Find.history c.args.graph.now.source) (c.args.id ∷ []) c.args.graph.now c.take.new.graph c.set_mark.new.graph c.set_mark.ensures.ids
    (more-taken (g.S.Find.history c.args.graph.now.source) c.args.graph.now c.take.new.graph c.args.id _ taken.taken)

pub returns-in-Err-push-clause-holds : goal.returns-in-Err-push-clause-holds
returns-in-Err-push-clause-holds g c = let taken = rw c.in-Ok-Some.field-0-is at c.in-Ok-Some.ensures in more-taken (g.S.Find.history c.args.graph.now.source) c.args.graph.now c.take.new.graph c.args.id _ taken.taken

pub returns-in_default-clause-holds : goal.returns-in_default-clause-holds
returns-in_default-clause-holds g c = let taken = rw c.in-Ok-Some.field-0-is at c.in-Ok-Some.ensures in more-taken (g.S.Find.history c.args.graph.now.source) c.args.graph.now c.take.new.graph c.args.id _ taken.taken
