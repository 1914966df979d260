use Rattle.std.proofs.Common.{◌≡◌, ap, sym, subst, ◌∙◌, ◌∷◌, [], reverse}
use Rattle.std.specs.List.{filter}
use Rattle.std.proofs.lemmas.List.Sorted.{list_any-IsPermutation, IsPermutation-reverse}
use Rattle.gix_base.specs.declared.hash.ObjectId.{ObjectId}
use Rattle.gix_revwalk.specs.History.{is_one_of, same_id}
use Rattle.gix_merge_base.specs.PaintQueue.{marks_at}
use Rattle.gix_merge_base.specs.Sides.{CoversSide, is_one_alone, is_two_alone}
use Rattle.gix_merge_base.proofs.Sides.{firsts_cover, seconds_cover}
use Rattle.gix_merge_base.proofs.merge_base.sides.paint_sides.Goals as goal

pub returns-clause-firsts : goal.returns-clause-firsts
returns-clause-firsts g c =
    let h = g.S.Find.history c.args.graph.now.source in
    let m = marks_at c.popped.new.graph in
    let seen = c.in_ok-seen.seen in
    let turned : (x : ObjectId) → is_one_of (reverse seen) x ≡ is_one_of seen x = λ x. sym (list_any-IsPermutation (same_id x) seen (reverse seen) (IsPermutation-reverse seen)) in
    subst (CoversSide h (c.args.first ∷ []) c.args.others.now) (sym (c.in_ok-firsts_of.ensures ∙ ap (λ l. filter (λ x. is_one_alone (m x)) (reverse l)) c.as_slice-ids.ensures))
    (firsts_cover h c.args.first c.args.others.now m seen (reverse seen) c.in_ok-seen.ensures.popped turned)

pub returns-clause-seconds : goal.returns-clause-seconds
returns-clause-seconds g c =
    let h = g.S.Find.history c.args.graph.now.source in
    let m = marks_at c.popped.new.graph in
    let seen = c.in_ok-seen.seen in
    let turned : (x : ObjectId) → is_one_of (reverse seen) x ≡ is_one_of seen x = λ x. sym (list_any-IsPermutation (same_id x) seen (reverse seen) (IsPermutation-reverse seen)) in
    subst (CoversSide h c.args.others.now (c.args.first ∷ [])) (sym (c.in_ok-seconds_of.ensures ∙ ap (λ l. filter (λ x. is_two_alone (m x)) (reverse l)) c.as_slice-ids.ensures))
    (seconds_cover h c.args.first c.args.others.now m seen (reverse seen) c.in_ok-seen.ensures.popped turned)
