use Rattle.std.proofs.Common.{◌≡◌, ◌<◌, ◌≤◌, ◌+◌, ◌∷◌, [], ℕ, Bool, take, get_or, length, refl, sym, ap, subst, ◌∙◌, is_some, Ok, arith}
use Rattle.std.specs.List.{filter}
use Rattle.std.proofs.lemmas.List.{take_all}
use Rattle.gix_revwalk.proofs.GraphAfters.{graph_as}
use Rattle.gix_base.specs.declared.hash.ObjectId.{ObjectId}
use Rattle.gix_revwalk.specs.History.{entry_at}
use Rattle.gix_merge_base.specs.PaintQueue.{queued_at, ids_at, AreIn}
use Rattle.gix_merge_base.proofs.AfterCalls.{after_none, after_more}
use Rattle.gix_merge_base.proofs.Counting.{times_then}
use Rattle.gix_merge_base.proofs.Fronts.{numbers_then}
use Rattle.gix_merge_base.proofs.Listed.{filter-next, filter-pushed}
use Rattle.gix_revwalk.proofs.Members.{one_of-at}
use Rattle.gix_merge_base.proofs.Loads.{loads_same, loads_then, loads_one}
use Rattle.gix_merge_base.proofs.merge_base.reduction.numbers_of.Goals as goal

and_none : (n : ℕ) → n ≡ n + 0
and_none n = omega arith

pub loop-id-init : goal.loop-id-init
loop-id-init g c =
    let old = c.args.graph.now in
    record {
      inside = subst (AreIn old) (sym c.new-numbers.ensures.items) tt;
      ids = ap (ids_at old) c.new-numbers.ensures.items;
      marks = λ q. refl;
      counted = λ q. and_none (queued_at old q);
      kept = λ ns all. (all, refl);
      loads = loads_same _ _ refl;
      after = after_none _;
    }

pub loop-id-preserved : goal.loop-id-preserved
loop-id-preserved g c =
    let h = g.S.Find.history c.args.graph.now.source in
    let same = c.loop-id.invariant.after.graph.same_history in
    let below : c.loop-id.id-index < length c.args.ids.now = omega arith in
    let listed = rw same at c.in_ok-list_one.ensures.listed in
    let counted = rw same at c.in_ok-list_one.ensures.counted in
    let one = listed c.loop-id.invariant.inside in
    let known : ObjectId → Bool = λ p. is_some (entry_at h p) in
    let i = c.loop-id.id-index in
    let ids = c.args.ids.now in
    let id : ObjectId = get_or ids i (record { 0 = [] }) in
    record {
      inside = one.0;
      ids = filter-pushed known ids i (record { 0 = [] }) below _ _ one.1 c.loop-id.invariant.ids;
      marks = λ q. c.in_ok-list_one.ensures.marks q ∙ c.loop-id.invariant.marks q;
      counted = times_then (queued_at c.args.graph.now) (queued_at c.loop-id.graph) (queued_at c.list_one.new.graph) (filter known (take i ids)) (filter known (id ∷ [])) (filter known (take (i + 1) ids)) c.loop-id.invariant.counted counted
          (filter-next known ids i (record { 0 = [] }) below);
      kept = numbers_then c.args.graph.now c.loop-id.graph c.list_one.new.graph c.loop-id.invariant.kept c.in_ok-list_one.ensures.numbers;
      loads = loads_then c.loop-id.invariant.loads (loads_one _ _ _ (one_of-at c.args.ids.now c.loop-id.id-index _ below) (rw same at c.list_one.ensures.holds));
      after = after_more _ _ _ _ c.loop-id.invariant.after c.in_ok-list_one.ensures.after;
    }

pub returns-clause-inside : goal.returns-clause-inside
returns-clause-inside g c = c.loop-id.invariant.inside

pub returns-clause-ids : goal.returns-clause-ids
returns-clause-ids g c =
    let done : length c.args.ids.now ≤ c.loop-id.id-index = omega arith in
    rw (take_all c.loop-id.id-index c.args.ids.now done) at c.loop-id.invariant.ids

pub returns-clause-marks : goal.returns-clause-marks
returns-clause-marks g c = c.loop-id.invariant.marks

pub returns-clause-counted : goal.returns-clause-counted
returns-clause-counted g c =
    let done : length c.args.ids.now ≤ c.loop-id.id-index = omega arith in
    rw (take_all c.loop-id.id-index c.args.ids.now done) at c.loop-id.invariant.counted

pub returns-clause-numbers : goal.returns-clause-numbers
returns-clause-numbers g c = c.loop-id.invariant.kept

pub returns-clause-loads : goal.returns-clause-loads
returns-clause-loads g c = c.loop-id.invariant.loads

pub returns-in_err-list_one-clause-loads : goal.returns-in_err-list_one-clause-loads
returns-in_err-list_one-clause-loads g c =
    let below : c.loop-id.id-index < length c.args.ids.now = omega arith in
    loads_then c.loop-id.invariant.loads (loads_one _ _ _ (one_of-at c.args.ids.now c.loop-id.id-index _ below) (rw c.loop-id.invariant.after.graph.same_history at c.list_one.ensures.holds))

pub returns-clause-after : goal.returns-clause-after
returns-clause-after g c = record { graph = graph_as _ _ (Ok tt) _ refl c.loop-id.invariant.after.graph; cause = tt }
