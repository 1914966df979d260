-- What a source in memory notes about the generation numbers of its commits.
use Rattle.std.specs.Prelude.{◌≡◌, ◌≤◌, ℕ, ⊤, None, Some, if◌then◌else◌}
use Rattle.std.specs.List.{All}
use Rattle.gix_base.specs.declared.hash.ObjectId.{ObjectId}
use Rattle.gix_revwalk.specs.History.{Entry, History, Has, entry_at, generation_of, parents_in, same_id}
use Rattle.gix_revwalk.specs.Generations.{HasNoGenerations}
use Rattle.gix_revwalk.specs.declared.graph.find.Generations.{Generations}
use Rattle.gix_revwalk.specs.declared.graph.find.Generations.TheVariants.{Unknown, Absent, NeverRise}

-- The history h has id, with a generation number of at most n.
abbrev pub IsUpTo : History → ℕ → ObjectId → Type 0
IsUpTo h n id = Has h id × (generation_of h id ≤ n)

-- For each commit of the history h, h has every parent, with no greater generation number.
abbrev pub AreLevelled : History → Type 0
AreLevelled h = (a : ObjectId) → All (IsUpTo h (generation_of h a)) (parents_in (entry_at h a))

-- What is known about generation numbers is true of the history h. If it is `NeverRise`, no parent
-- is missing from h, and so a new commit is nobody's parent.
abbrev pub AreRight : Generations → History → Type 0
AreRight Unknown h = ⊤
AreRight Absent h = HasNoGenerations h
AreRight NeverRise h = AreLevelled h

-- What a source in memory with the history h notes about generation numbers is right. If no commit
-- has one other than infinity, then this is noted.
pub record AreNoted (known : Generations) (h : History) : Type 0 where
  pub right : AreRight known h
  pub absent : HasNoGenerations h → known ≡ Absent

-- What is noted is true of every history that has one commit e more than h.
abbrev pub AreNotedWith : Generations → History → Entry → Type 0
AreNotedWith known h e =
    (id : ObjectId) (more : History) → entry_at h id ≡ None
    → ((q : ObjectId) → entry_at more q ≡ (if same_id id q then Some e else entry_at h q)) → AreNoted known more
