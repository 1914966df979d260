use Rattle.std.proofs.Common.{subst, sym, ◌∷◌, IsTrue}
use Rattle.std.proofs.lemmas.Result.{IfOk-weaker}
use Rattle.gix_base.specs.declared.hash.ObjectId.{ObjectId}
use Rattle.gix_revwalk.specs.History.{is_one_of}
use Rattle.gix_merge_base.specs.Bases.{IsCommon, IsMaximal}
use Rattle.gix_merge_base.proofs.AfterCalls.{after_more}
use Rattle.gix_merge_base.proofs.Best.{max_of_painted, painted_within}
use Rattle.gix_merge_base.proofs.Reached.{acyclic_within}
use Rattle.gix_range.proofs.independence.bases.Goals as goal

pub returns-clause-exact : goal.returns-clause-exact
returns-clause-exact g c acyclic =
    let h = g.S.Find.history c.args.graph.now.source in
    let f = c.args.first in
    let os = c.args.others.now in
    let found = c.deref.result.now in
    let e = c.deref.ensures.value in
    let common : (x : ObjectId) → IsTrue (is_one_of found x) → IsCommon h f os x = subst (λ l. (x : ObjectId) → IsTrue (is_one_of l x) → IsCommon h f os x) (sym e) c.in_ok-found.ensures.common in
    let best : (x : ObjectId) → IsMaximal h (IsCommon h f os) x → IsTrue (is_one_of found x) = subst (λ l. (x : ObjectId) → IsMaximal h (IsCommon h f os) x → IsTrue (is_one_of l x)) (sym e) (c.in_ok-found.ensures.best acyclic) in
    let exact = rw c.in_ok-found.ensures.history at c.independent.ensures.exact in
    IfOk-weaker c.independent.result _ _ (λ bases is x. let m = max_of_painted h f os found acyclic common best x in (λ k. m.0 ((is x).0 k), λ k. (is x).1 (m.1 k)))
    (exact (acyclic_within h found (f ∷ os) (painted_within h f os found common) acyclic))

pub returns-clause-after : goal.returns-clause-after
returns-clause-after g c =
    let painted = c.in_ok-found.ensures in
    after_more _ _ _ _ (record { graph = record { same_history = painted.history; count = painted.count; held = painted.held }; cause = tt }) c.independent.ensures.after
