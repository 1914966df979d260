use Rattle.std.proofs.Common.{◌∙◌, ◌∷◌, [], List, refl, sym, ap, arith}
use Rattle.std.specs.Prelude.{slice_get}
use Rattle.gix_base.specs.declared.hash.ObjectId.{ObjectId}
use Rattle.gix_merge_base.proofs.Heads.{first_is_octopus, first_is_common}
use Rattle.gix_merge_base.proofs.Loads.{met_of_loads}
use Rattle.gix_merge_base.proofs.Sorting.{few_in_order}
use Rattle.gix_merge_base.proofs.Residuals.{count_err, cause_err}
use Rattle.gix_merge_base.proofs.merge_base.heads.octopus.Goals as goal

pub returns-clause-first : goal.returns-clause-first
returns-clause-first g c =
    let differ = sym c.all_are.ensures ∙ c.if-all_are.false in
    (c.in_ok-bases.bases.items, record { bases = λ acyclic _. c.in_ok-bases.ensures.bases acyclic; order = c.in_ok-bases.ensures.order; alone = λ all. cc }, (c.copied.ensures ∙ c.first.ensures.value ∙ ap (λ (l : List ObjectId). slice_get l 0) c.deref.ensures.value))

pub returns-then-all_are-clause-first : goal.returns-then-all_are-clause-first
returns-then-all_are-clause-first g c =
    let all = sym c.all_are.ensures ∙ c.if-all_are.true in
    (c.args.first ∷ [], record { bases = λ acyclic differ. cc; order = few_in_order (g.S.Find.history c.args.graph.now.source) (c.args.first ∷ []) (omega arith); alone = λ _. refl }, refl)

pub returns-clause-base : goal.returns-clause-base
returns-clause-base g c acyclic rises =
    let differ = sym c.all_are.ensures ∙ c.if-all_are.false in
    first_is_octopus _ _ _ c.in_ok-bases.bases.items _ differ rises (c.in_ok-bases.ensures.bases acyclic) c.in_ok-bases.ensures.order (c.copied.ensures ∙ c.first.ensures.value ∙ ap (λ (l : List ObjectId). slice_get l 0) c.deref.ensures.value)

pub returns-clause-common : goal.returns-clause-common
returns-clause-common g c acyclic differ = first_is_common _ _ _ c.in_ok-bases.bases.items _ (c.in_ok-bases.ensures.bases acyclic) (c.copied.ensures ∙ c.first.ensures.value ∙ ap (λ (l : List ObjectId). slice_get l 0) c.deref.ensures.value)

pub returns-clause-reached : goal.returns-clause-reached
returns-clause-reached g c = met_of_loads c.bases_of_heads.ensures.loads

pub returns-in_err-bases-clause-reached : goal.returns-in_err-bases-clause-reached
returns-in_err-bases-clause-reached g c = met_of_loads c.bases_of_heads.ensures.loads

pub returns-then-all_are-clause-base : goal.returns-then-all_are-clause-base
returns-then-all_are-clause-base g c acyclic rises = let all = sym c.all_are.ensures ∙ c.if-all_are.true in rw all refl

pub returns-then-all_are-clause-common : goal.returns-then-all_are-clause-common
returns-then-all_are-clause-common g c acyclic differ = let all = sym c.all_are.ensures ∙ c.if-all_are.true in cc

pub returns-then-all_are-clause-trivial : goal.returns-then-all_are-clause-trivial
returns-then-all_are-clause-trivial g c all = (refl, refl)

pub returns-in_err-bases-clause-count : goal.returns-in_err-bases-clause-count
returns-in_err-bases-clause-count g c = count_err _ c.in_err-bases.field-0.0 _ _ c.from_residual.ensures.1 c.in_err-bases.ensures.after.graph.count

pub returns-in_err-bases-clause-cause : goal.returns-in_err-bases-clause-cause
returns-in_err-bases-clause-cause g c = cause_err _ c.in_err-bases.field-0.0 c.from_residual.ensures.1 c.in_err-bases.ensures.after.cause

pub returns-in_err-bases-clause-history : goal.returns-in_err-bases-clause-history
returns-in_err-bases-clause-history g c = c.bases_of_heads.ensures.after.graph.same_history

pub returns-in_err-bases-clause-held : goal.returns-in_err-bases-clause-held
returns-in_err-bases-clause-held g c = c.bases_of_heads.ensures.after.graph.held

pub returns-clause-history : goal.returns-clause-history
returns-clause-history g c = c.bases_of_heads.ensures.after.graph.same_history

pub returns-clause-count : goal.returns-clause-count
returns-clause-count g c = c.in_ok-bases.ensures.after.graph.count

pub returns-clause-held : goal.returns-clause-held
returns-clause-held g c = c.bases_of_heads.ensures.after.graph.held
