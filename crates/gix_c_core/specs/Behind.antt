-- The history behind a handle.
use Rattle.std.specs.Prelude.{◌++◌}
use Rattle.std.specs.BTreeSet.{keys}
use Rattle.gix_commitgraph.specs.NewerCommits.{in_file}
use Rattle.gix_commitgraph.specs.declared.commit_graph.joined.Joined.{Joined}
use Rattle.gix_resolve.specs.Known.{Known, known_by}
use Rattle.gix_revwalk.specs.History.{History as Commits}
use Rattle.gix_c_core.specs.declared.handle.Handle.{Handle}
use Rattle.gix_c_core.specs.declared.history.History.{History}

-- The commits of a file, if there is one, and after them newer ones. If both have an id, the commit
-- of the file counts.
abbrev pub joined : {B : Type 0} → Joined Commits B → Commits
joined j = in_file j.file ++ j.newer

-- The commits of the file over which the history was opened, if any, and those that were inserted
-- into it.
abbrev pub commits_in : History → Commits
commits_in v = joined v.graph.source

-- The commits of the history behind a handle: those of its files, if it has any, and those that
-- were inserted.
abbrev pub commits_of : Handle → Commits
commits_of h = commits_in h.value

-- What revisions are resolved by: the names of the history, and the ids that abbreviated object
-- names stand for.
abbrev pub known_in : History → Known
known_in v = known_by keys v.table
