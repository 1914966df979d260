-- What is compared to sort commits.
use Rattle.std.specs.Prelude.{Option, Some, None, is_some, if◌then◌else◌}
use Rattle.std.specs.Option.{option_map}
use Rattle.std.specs.declared.cmp.Reverse.{Reverse}
use Rattle.gix_base.specs.declared.hash.ObjectId.{ObjectId}
use Rattle.gix_revwalk.specs.History.{History, entry_at, generation_of, time_of}
use Rattle.gix_merge_base.specs.declared.merge_base.gen_then_time.GenThenTime.{GenThenTime}

-- A candidate has a key and an id. The greatest candidate is listed first.
abbrev pub Candidate : Type 0
Candidate = GenThenTime × Reverse ObjectId

-- The candidate for id has the generation number and the time of id in the history h.
abbrev pub candidate_for : History → ObjectId → Candidate
candidate_for h id = (record { generation = generation_of h id; time = time_of h id }, record { 0 = id })

-- The candidate for id if the history has id, and otherwise none.
abbrev pub candidate_at : History → ObjectId → Option Candidate
candidate_at h id = if is_some (entry_at h id) then Some (candidate_for h id) else None

-- The candidate for id, reversed, so that sorting puts the greatest candidate first.
abbrev pub turned_at : History → ObjectId → Option (Reverse Candidate)
turned_at h id = option_map (λ c. record { 0 = c }) (candidate_at h id)

-- The id of a reversed candidate.
abbrev pub id_in : Reverse Candidate → ObjectId
id_in p = p.0.1.0
