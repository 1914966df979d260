use Rattle.std.proofs.Common.{◌≡◌, take}
use Rattle.gix_base.specs.declared.hash.ObjectId.{ObjectId}
use Rattle.gix_commitgraph.specs.FileCommits.{history_in}
use Rattle.gix_revwalk.specs.History.{is_one_of}
use Rattle.gix_c_core.proofs.Copied.{ids_in}
use Rattle.gix_c_core.proofs.file.ids_of_file.Given as goal

abbrev pub invariant-loop-position : goal.invariant-loop-position
invariant-loop-position l = (q : ObjectId) → is_one_of l.ids.keys q ≡ is_one_of (ids_in (take l.position (history_in l.fn.file))) q
