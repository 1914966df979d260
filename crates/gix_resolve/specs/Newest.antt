-- Commits in order of generation number, time and id, the greatest first: a child comes before its
-- parents wherever generation numbers fall.
use Rattle.std.specs.declared.cmp.Reverse.{Reverse}
use Rattle.gix_base.specs.declared.hash.ObjectId.{ObjectId}
use Rattle.gix_revwalk.specs.History.{History}
use Rattle.gix_merge_base.specs.Candidates.{Candidate, candidate_for}

-- The sort key of the commit with the given id. The commit with the least key comes first.
abbrev pub turned_for : History → ObjectId → Reverse Candidate
turned_for h id = record { 0 = candidate_for h id }
