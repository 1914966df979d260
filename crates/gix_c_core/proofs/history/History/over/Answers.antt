use Rattle.std.proofs.Common.{ap, sym, subst, ◌∙◌}
use Rattle.std.specs.BTreeSet.{BTreeSet}
use Rattle.gix_base.specs.declared.hash.ObjectId.{ObjectId}
use Rattle.gix_commitgraph.specs.FileCommits.{history_in}
use Rattle.gix_revwalk.specs.History.{History, is_one_of}
use Rattle.gix_c_core.specs.Noted.{Remembers}
use Rattle.gix_c_core.proofs.Lacking.{noted-closed}
use Rattle.gix_c_core.proofs.history.History.over.Goals as goal

pub returns : goal.returns
returns c =
    let made = c.with.ensures in
    let levelled = c.premises.ensures.levelled in
    record {
      commits = made.commits ∙ c.with_seed-commits.ensures.commits;
      held = made.held;
      noted = subst (λ (h : History). Remembers h c.with.result.named.items) (sym (made.commits ∙ c.with_seed-commits.ensures.commits))
          (noted-closed (history_in c.args.file) c.with.result.named.items levelled.closed made.named);
      names = made.names;
      ids = λ id. ap (λ (s : BTreeSet ObjectId). is_one_of s.keys id) made.ids ∙ c.in_ok-ids.ensures id;
      levelled = levelled;
      extent = made.extent;
    }
