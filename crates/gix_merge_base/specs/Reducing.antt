-- The members of a list that no other one reaches: git-merge-base, "--independent".
use Rattle.std.specs.Prelude.{◌≡◌, List, [], Bool, IsTrue}
use Rattle.std.specs.List.{filter}
use Rattle.gix_revwalk.specs.History.{History, is_one_of}
use Rattle.gix_revwalk.specs.Walks.{all_added}
use Rattle.gix_merge_base.specs.Bases.{IsMaximal}
use Rattle.gix_base.specs.declared.hash.ObjectId.{ObjectId}

-- Each id once, in the order of first places.
abbrev pub firsts : List ObjectId → List ObjectId
firsts ids = all_added [] ids

-- Commit c is one of ids, and no other one of them has c as an ancestor (git-merge-base,
-- "--independent").
abbrev pub IsIndependent : History → List ObjectId → ObjectId → Type 0
IsIndependent h ids c = IsMaximal h (λ x. IsTrue (is_one_of ids x)) c

-- The list ys has some ids of xs, each once, in the order of their first places.
abbrev pub SomeOf : List ObjectId → List ObjectId → Type 0
SomeOf xs ys = (keep : ObjectId → Bool) × (ys ≡ filter keep (firsts xs))
