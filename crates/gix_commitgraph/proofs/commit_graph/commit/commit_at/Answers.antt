use Rattle.std.proofs.Common.{◌≡◌, ◌+◌, ℕ, IfOk, subst, arith}
use Rattle.gix_revwalk.specs.Held.{entry_of}
use Rattle.gix_revwalk.specs.History.{Entry}
use Rattle.gix_commitgraph.specs.FileChecks.{IsSoundIn}
use Rattle.gix_commitgraph.proofs.Alone.{entry-alone}
use Rattle.gix_commitgraph.proofs.commit_graph.commit.commit_at.Goals as goal

pub commit_in-requires-clause-sound : goal.commit_in-requires-clause-sound
commit_in-requires-clause-sound g c =
    let P : ℕ → Type 0 = IsSoundIn c.args.bytes.now c.args.l in
    let e : c.args.l.table.count ≡ 0 + c.args.l.table.count = omega arith in
    subst P e c.requires.sound

pub returns : goal.returns
returns g c =
    let P : Entry → Type 0 = λ e. IfOk c.commit_in.result (λ commit. entry_of commit ≡ e) in
    subst P (entry-alone c.args.bytes.now c.args.l c.args.i) c.commit_in.ensures
