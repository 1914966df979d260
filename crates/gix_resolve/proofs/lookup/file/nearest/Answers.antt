use Rattle.std.proofs.Common.{◌≡◌, ℕ, suc, ◌+◌, List, drop, slice_get, sym, ap, ◌∙◌, arith}
use Rattle.std.proofs.lemmas.Option.{slice_get-map}
use Rattle.gix_base.specs.Prefix.{prefix_text}
use Rattle.gix_base.specs.declared.hash.ObjectId.{ObjectId}
use Rattle.gix_revwalk.specs.History.{Entry}
use Rattle.gix_revision.specs.FileCommits.{history_in}
use Rattle.gix_revision.specs.FileIds.{ids_in}
use Rattle.gix_resolve.specs.Found.{found_next}
use Rattle.gix_resolve.specs.declared.lookup.Found.TheVariants.{Nothing}
use Rattle.gix_resolve.proofs.Beginnings.{found_by_place, first_at, second_at, first_in, second_in, rising_once}
use Rattle.gix_resolve.proofs.lookup.file.nearest.Goals as goal

pub returns-clause-once : goal.returns-clause-once
returns-clause-once g c = rising_once (ids_in c.args.file.now) c.position_from-place.ensures.rising

pub returns-clause-found : goal.returns-clause-found
returns-clause-found g c =
    let digits = prefix_text c.args.prefix in
    let commits = history_in c.args.file.now in
    let ids : List ObjectId = ids_in c.args.file.now in
    let k : ℕ = c.position_from-place.result in
    let id_in = λ (e : ObjectId × Entry). e.0 in
    let next : k + 1 ≡ suc k = omega arith in
    let first : c.id-first.result ≡ first_in (drop k ids) = c.id-first.ensures ∙ sym (slice_get-map id_in commits k) ∙ first_at k ids in
    let second : c.id-second.result ≡ second_in (drop k ids) = c.id-second.ensures ∙ sym (slice_get-map id_in commits (k + 1)) ∙ ap (slice_get ids) next ∙ second_at k ids in
    c.with_next-2.ensures ∙ ap (λ f. found_next digits f c.id-second.result) c.with_next.ensures
    ∙ ap (λ o. found_next digits (found_next digits Nothing o) c.id-second.result) first
    ∙ ap (λ o. found_next digits (found_next digits Nothing (first_in (drop k ids))) o) second
    ∙ found_by_place digits c.as_oid.result.now (record { id = c.is_id.ensures; text = c.as_oid.ensures; few = (c.prefixes_read_back.ensures c.args.prefix).0.1 }) k ids c.position_from-place.ensures.rising c.none_before.ensures c.position_from-place.ensures.first.from
