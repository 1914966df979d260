use Rattle.std.proofs.Common.{subst, sym, ap, ◌∙◌, is_some, IsTrue}
use Rattle.gix_base.specs.declared.hash.ObjectId.{ObjectId}
use Rattle.gix_commitgraph.proofs.Falling.{fall-acyclic, fall-never_rise}
use Rattle.gix_commitgraph.proofs.Joins.{joined-acyclic, joined-never_rise}
use Rattle.gix_commitgraph.specs.ChainCommits.{chain_in}
use Rattle.gix_revwalk.specs.History.{History as Commits, Has, entry_at, is_one_of, parents_in}
use Rattle.gix_c_core.specs.Behind.{commits_in}
use Rattle.gix_c_core.specs.ChainOpened.{IsMadeOver, bytes_of}
use Rattle.gix_c_core.specs.declared.history.History.{History}
use Rattle.gix_c_core.proofs.Copied.{all-ids}
use Rattle.gix_c_core.proofs.Lacking.{noted-closed}
use Rattle.gix_c.proofs.open_chain.gix_history_open_chain.Goals as goal

pub returns-clause-opened : goal.returns-clause-opened
returns-clause-opened c =
    let h = chain_in (bytes_of c.args.files.now) in
    let of = c.in-Ok.ensures in
    let v = c.in-Ok-over_chain.history in
    let is = c.in-Ok-over_chain.ensures in
    let put = c.in-Ok-holding.ensures in
    let commits = λ (q : ObjectId). ap (λ (k : Commits). entry_at k q) is.commits ∙ of.commits q in
    let closed : (a b : ObjectId) → IsTrue (is_one_of (parents_in (entry_at (commits_in v) a)) b) → Has (commits_in v) b = λ a b parent. ap is_some (commits b) ∙ of.levelled.closed a b (ap (λ o. is_one_of (parents_in o) b) (sym (commits a)) ∙ parent) in
    let made : IsMadeOver h v = record {
      commits = commits;
      held = is.held;
      noted = noted-closed _ v.named.items closed is.named;
      names = is.names;
      ids = λ q. is.ids q ∙ ap (λ xs. is_one_of xs q) of.ids ∙ all-ids h q;
      extent = is.extent;
    } in
    record {
      chain = of.chain;
      fall = of.fall;
      levelled = of.levelled;
      handle = put.0;
      there = put.1;
      made = subst (λ (w : History). IsMadeOver h w) (sym put.2) made;
    }

pub returns-clause-premises : goal.returns-clause-premises
returns-clause-premises c =
    let h = chain_in (bytes_of c.args.files.now) in
    (fall-acyclic h c.in-Ok.ensures.levelled.fall, fall-never_rise h c.in-Ok.ensures.levelled.fall)

pub returns-clause-acyclic : goal.returns-clause-acyclic
returns-clause-acyclic c = λ newer acyclic. joined-acyclic (chain_in (bytes_of c.args.files.now)) newer c.in-Ok.ensures.levelled acyclic

pub returns-clause-never_rise : goal.returns-clause-never_rise
returns-clause-never_rise c = λ newer none. joined-never_rise (chain_in (bytes_of c.args.files.now)) newer c.in-Ok.ensures.levelled none
