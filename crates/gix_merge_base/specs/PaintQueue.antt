-- The queue and the marks of a walk, read through the numbers of the graph.
use Rattle.std.specs.Prelude.{◌≡◌, ℕ, ◌<◌, List, [], map, IsTrue, is_some, Option}
use Rattle.std.specs.Option.{unwrap_or}
use Rattle.std.specs.List.{AllByRecursion}
use Rattle.gix_base.specs.declared.hash.ObjectId.{ObjectId}
use Rattle.gix_revwalk.specs.History.{History, Entry, entry_at, parents_in, generation_in, time_in}
use Rattle.gix_revwalk.specs.Graph.{Graphed, held_at, held_len}
use Rattle.gix_revwalk.specs.Data.{mark_at}
use Rattle.gix_revwalk.specs.Number.{place_in}
use Rattle.gix_revwalk.specs.Numbers.{named}
use Rattle.gix_revwalk.specs.declared.graph.commit.Commit.{Commit}
use Rattle.gix_revwalk.specs.declared.numbers.Mark.{Mark}
use Rattle.gix_revwalk.specs.declared.numbers.Number.{Number}
use Rattle.gix_merge_base.specs.Marks.{MarkSet, marks_of}
use Rattle.gix_merge_base.specs.declared.merge_base.flags.Flags.{Flags}
use Rattle.gix_merge_base.specs.declared.merge_base.gen_then_time.GenThenTime.{GenThenTime}

-- The key of a look-up's answer.
abbrev pub key_in : Option Entry → GenThenTime
key_in e = record { generation = generation_in e; time = time_in e }

-- The key of the commit under an id.
abbrev pub key_at : History → ObjectId → GenThenTime
key_at h id = key_in (entry_at h id)

-- The parents of the commit under an id.
abbrev pub parents_at : History → ObjectId → List ObjectId
parents_at h id = parents_in (entry_at h id)

-- No marks, and not queued.
abbrev pub no_mark : Mark Flags
no_mark = record { marks = record { 0 = 0 }; queued = 0 }

-- The mark that the walk gave an id; no marks if it gave none.
abbrev pub mark_or : {S A : Type 0} → Graphed S (Commit Flags A) → ObjectId → Mark Flags
mark_or g q = unwrap_or (mark_at g q) no_mark

-- The set of marks that the walk gave an id.
abbrev pub marks_at : {S A : Type 0} → Graphed S (Commit Flags A) → ObjectId → MarkSet
marks_at g q = marks_of (mark_or g q).marks

-- How often an id is queued.
abbrev pub queued_at : {S A : Type 0} → Graphed S (Commit Flags A) → ObjectId → ℕ
queued_at g q = (mark_or g q).queued

-- The id at a place of the graph.
abbrev pub id_at : {S T : Type 0} → Graphed S T → ℕ → ObjectId
id_at g k = unwrap_or (named g k) (record { 0 = [] })

-- The id of a number.
abbrev pub id_of : {S T : Type 0} → Graphed S T → Number → ObjectId
id_of g n = id_at g (place_in n)

-- The ids that are queued.
abbrev pub queued_ids : {S T K : Type 0} → Graphed S T → List (K × Number) → List ObjectId
queued_ids g ps = map (λ p. id_at g (place_in p.1)) ps

-- Each queued number is one of the graph.
abbrev pub AreHeld : {S T K : Type 0} → Graphed S T → List (K × Number) → Type 0
AreHeld g ps = AllByRecursion (λ p. place_in p.1 < held_len g) ps

-- Each number is queued under the key of its commit.
abbrev pub Keyed : {S T : Type 0} → History → Graphed S T → List (GenThenTime × Number) → Type 0
Keyed h g ps = AllByRecursion (λ p. p.0 ≡ key_at h (id_at g (place_in p.1))) ps

-- The ids of numbers.
abbrev pub ids_at : {S T : Type 0} → Graphed S T → List Number → List ObjectId
ids_at g ns = map (λ n. id_at g (place_in n)) ns

-- The number n is one of the graph.
abbrev pub IsIn : {S T : Type 0} → Graphed S T → Number → Type 0
IsIn g n = place_in n < held_len g

-- Each of the numbers ns is one of the graph.
abbrev pub AreIn : {S T : Type 0} → Graphed S T → List Number → Type 0
AreIn g ns = AllByRecursion (λ n. place_in n < held_len g) ns

-- The graph holds the commit q.
abbrev pub IsHeld : {S T : Type 0} → Graphed S T → ObjectId → Type 0
IsHeld g q = IsTrue (is_some (held_at g q))
