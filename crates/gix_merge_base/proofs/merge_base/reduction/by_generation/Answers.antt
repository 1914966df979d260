use Rattle.std.proofs.Common.{◌≡◌, ℕ, get_or, take, sym, ap, subst, ◌∙◌, ◌∷◌, ◌++◌, [], rules}
use Rattle.std.specs.List.{All}
use Rattle.std.specs.List.Sorted.{IsPermutation}
use Rattle.std.proofs.lemmas.List.{map-append, take_more, take_all}
use Rattle.std.proofs.lemmas.List.Elements.{All-push}
use Rattle.std.proofs.lemmas.List.Sorted.{IsNonDecreasingBy-from_sort_by_key, IsPermutation-map, All-permutation}
use Rattle.gix_revwalk.specs.History.{generation_of}
use Rattle.gix_revwalk.specs.Number.{place_in}
use Rattle.gix_revwalk.specs.declared.numbers.Number.{Number}
use Rattle.gix_merge_base.specs.PaintQueue.{queued_ids, ids_at, id_at, key_in}
use Rattle.gix_merge_base.specs.ReduceSteps.{IsRanked}
use Rattle.gix_merge_base.specs.declared.merge_base.gen_then_time.GenThenTime.{GenThenTime}
use Rattle.gix_merge_base.proofs.Listed.{in-item}
use Rattle.gix_merge_base.proofs.Numbered.{named-id}
use Rattle.gix_merge_base.proofs.merge_base.reduction.by_generation.Goals as goal

pub loop-number-preserved : goal.loop-number-preserved
loop-number-preserved g c =
    let h = g.S.Find.history c.args.graph.now.source in
    let graph = c.args.graph.now in
    let lt = c.loop-number-test.true in
    let k : Number = get_or c.args.numbers.now c.loop-number.number-index (record { 0 = 0 }) in
    let held = in-item graph c.args.numbers.now c.loop-number.number-index (record { 0 = 0 }) c.requires lt in
    let agrees = c.value.ensures.agrees (id_at graph (place_in k)) (named-id graph (place_in k) held) in
    let generation : c.from-generation.result.generation ≡ generation_of h (id_at graph (place_in k)) = ap (λ (z : GenThenTime). z.generation) (c.from-generation.ensures ∙ ap key_in (sym agrees)) in
    let pushed = c.in_ok-push.ensures.items in
    record {
      ranked = subst (All (IsRanked h graph)) (sym pushed) (All-push (IsRanked h graph) c.loop-number.order.items (c.from-generation.result.generation, k) c.loop-number.invariant.ranked (held, generation));
      made = ap (queued_ids graph) pushed ∙ map-append (λ (p : ℕ × Number). id_at graph (place_in p.1)) c.loop-number.order.items ((c.from-generation.result.generation, k) ∷ [])
          ∙ ap (λ l. l ++ id_at graph (place_in k) ∷ []) c.loop-number.invariant.made
          ∙ sym (map-append (λ (n : Number). id_at graph (place_in n)) (take c.loop-number.number-index c.args.numbers.now) (k ∷ []))
          ∙ sym (ap (ids_at graph) (take_more c.args.numbers.now c.loop-number.number-index (record { 0 = 0 }) lt));
    }

pub returns-clause-order : goal.returns-clause-order
returns-clause-order g c = record {
  ranked = All-permutation (IsRanked (g.S.Find.history c.args.graph.now.source) c.args.graph.now) c.loop-number.order.items c.sort_unstable_by_key.new.self.items c.sort_unstable_by_key.ensures.permutation c.loop-number.invariant.ranked;
  rising = IsNonDecreasingBy-from_sort_by_key (λ p. p.0) _ c.sort_unstable_by_key.ensures.sorted (λ a r q k. search rules);
}

pub returns-clause-ids : goal.returns-clause-ids
returns-clause-ids g c =
    let graph = c.args.graph.now in
    let all : ids_at graph (take c.loop-number.number-index c.args.numbers.now) ≡ ids_at graph c.args.numbers.now = ap (ids_at graph) (take_all c.loop-number.number-index c.args.numbers.now c.loop-number-test.false) in
    subst (λ l. IsPermutation l (queued_ids graph c.sort_unstable_by_key.new.self.items)) (c.loop-number.invariant.made ∙ all)
    (IsPermutation-map (λ (p : ℕ × Number). id_at graph (place_in p.1)) c.loop-number.order.items c.sort_unstable_by_key.new.self.items c.sort_unstable_by_key.ensures.permutation)
