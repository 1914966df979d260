-- Options that are read by their exact names, as rev-list and rev-parse read theirs.
use Rattle.std.specs.Prelude.{◌≡◌, ◌≢◌, ◌<◌, ℕ, List, [], ◌++◌, ◌⊎◌, Some, slice_get, codes}
use Rattle.parse_options.specs.declared.exact.Exact.{Exact}
use Rattle.parse_options.specs.declared.exact.Takes.{Takes}
use Rattle.parse_options.specs.declared.exact.Takes.TheVariants.{Nothing, Joined, Text, Word, NextWord, Glued}
use Rattle.parse_options.specs.declared.exact.Holds.{Holds}
use Rattle.parse_options.specs.declared.exact.Holds.TheVariants as holds
use Rattle.parse_options.specs.Names.{At}

-- What the word of an option holds of the value.
pub data Held : Type 0 where
  nothing : Held
  text : List ℕ → Held
  -- the next word is the value
  next_word : Held

-- What a word holds, as the reader returns it.
abbrev pub held_of : Holds → Held
held_of holds.Nothing = nothing
held_of (holds.Text t) = text t.now
held_of holds.NextWord = next_word

-- Behind the name are "=" and the value.
abbrev pub IsJoined : (rest : List ℕ) → Held → Type 0
IsJoined rest held = (value : List ℕ) × (rest ≡ codes "=" ++ value) × (held ≡ text value)

-- What the word of an option holds of the value, if rest is behind the name in the word. The value
-- is nowhere, joined by "=", the next word, or right behind the name (git-rev-list, "Commit
-- Limiting"; git-rev-parse, "Options").
abbrev pub IsHeld : Takes → (rest : List ℕ) → Held → Type 0
IsHeld Nothing rest held = (rest ≡ []) × (held ≡ nothing)
IsHeld Joined rest held = ((rest ≡ []) × (held ≡ nothing)) ⊎ IsJoined rest held
IsHeld Text rest held = IsJoined rest held
IsHeld Word rest held = ((rest ≡ []) × (held ≡ next_word)) ⊎ IsJoined rest held
IsHeld NextWord rest held = (rest ≡ []) × (held ≡ next_word)
IsHeld Glued rest held = ((rest ≡ []) × (held ≡ next_word)) ⊎ ((rest ≢ []) × (held ≡ text rest))

-- The name of an option, with its dashes.
abbrev pub name : {K : Type 0} → Exact K → List ℕ
name option = option.0.now

-- Where an option has its value.
abbrev pub takes : {K : Type 0} → Exact K → Takes
takes option = option.1

-- What says which option it is.
abbrev pub key : {K : Type 0} → Exact K → K
key option = option.2

-- A word is an option, and holds this: the word is the name of the option and what is behind it.
abbrev pub Reads : {K : Type 0} → Exact K → (word : List ℕ) → Held → Type 0
Reads option word held = (rest : List ℕ) × (word ≡ name option ++ rest) × IsHeld (takes option) rest held

-- A word is the option at place of a table.
abbrev pub ReadsAt : {K : Type 0} → List (Exact K) → (place : ℕ) → (word : List ℕ) → Type 0
ReadsAt options place word = At options place (λ option. (held : Held) × Reads option word held)

-- The first option of a table that a word is has the key read, and the word holds this.
pub record IsFirst {K : Type 0} (options : List (Exact K)) (word : List ℕ) (read : K) (held : Held) : Type 0 where
  pub place : ℕ
  pub option : Exact K
  pub found : slice_get options place ≡ Some option
  pub is_key : key option ≡ read
  pub reads : Reads option word held
  pub first : (other : ℕ) → other < place → ReadsAt options other word → ⊥
