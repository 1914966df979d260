-- What a source knows about the generation numbers of its commits.
use Rattle.std.specs.Prelude.{◌≡◌, ◌-◌, ◌^◌, ⊤}
use Rattle.gix_base.specs.declared.hash.ObjectId.{ObjectId}
use Rattle.gix_revwalk.specs.History.{History, GenerationsNeverRise, generation_of}
use Rattle.gix_revwalk.specs.declared.graph.find.Generations.{Generations}
use Rattle.gix_revwalk.specs.declared.graph.find.Generations.TheVariants.{Unknown, Absent, NeverRise}

-- In the history h, every id has infinity as its generation number: the number is missing, or is
-- the greatest u32 (git's technical/commit-graph, "generation number": a commit that the file lacks
-- has infinity).
abbrev pub HasNoGenerations : History → Type 0
HasNoGenerations h = (a : ObjectId) → generation_of h a ≡ 2 ^ 32 - 1

-- What is known about generation numbers is true of the history h: `Absent` says
-- `HasNoGenerations`, `NeverRise` says `GenerationsNeverRise`, and `Unknown` says nothing.
abbrev pub AreSo : Generations → History → Type 0
AreSo Unknown h = ⊤
AreSo Absent h = HasNoGenerations h
AreSo NeverRise h = GenerationsNeverRise h
