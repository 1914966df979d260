-- Descriptions of commits as C has them.
use Rattle.std.specs.Prelude.{◌≡◌, ◌==◌, ◌⊎◌, ◌^◌, if◌then◌else◌, Bool, false, ℕ, ℤ, List, [], ◌∷◌, ◌++◌, Option, Some, None, map, take, drop, length, min}
use Rattle.std.specs.declared.borrow.CowSlice.{CowSlice}
use Rattle.gix_base.specs.declared.hash.ObjectId.{ObjectId}
use Rattle.gix_revwalk.specs.History.{History, Has, IsAncestor}
use Rattle.gix_revwalk.specs.Followed.{followed}
use Rattle.gix_revwalk.specs.Sizes.{AtLeast}
use Rattle.gix_describe.specs.DescribeRefusals.{NeedsWalk}
use Rattle.gix_describe.specs.Described.{Names, Description, IsDescribed, name_at}
use Rattle.gix_describe.specs.FormatText.{described_text, hex_text}
use Rattle.gix_describe.specs.Outcomes.{names_of, Walks}
use Rattle.gix_describe.specs.declared.describe.options.Manner.{Manner}
use Rattle.gix_describe.specs.declared.describe.options.Options.{Options}
use Rattle.gix_describe.specs.declared.describe.options.Tie.TheVariants.{ById, ByMeeting}
use Rattle.gix_c_core.specs.Answers.{id_of}
use Rattle.gix_c_core.specs.declared.describe.Name.{Name}
use Rattle.gix_c_core.specs.declared.describe.How.{How}
use Rattle.gix_c_core.specs.declared.status.TheConstants.{OUT_OF_MEMORY, NO_COMMIT, TOO_MANY}

-- The name n that is passed, as a pair of an id and a text.
abbrev pub given_pair : Name → ObjectId × List ℕ
given_pair n = (id_of n.id, n.text.now)

-- The names that are passed. If a commit has several, the first one counts.
abbrev pub names_given : List Name → Names
names_given ns = map given_pair ns

-- The name that n gives the commit q, if any.
abbrev pub named_by : Name → ObjectId → Option (List ℕ)
named_by n q = name_at (given_pair n ∷ []) q

-- The first of two values that exists, if one does.
abbrev pub first_of : {X : Type 0} → Option X → Option X → Option X
first_of None b = b
first_of (Some a) b = Some a

-- The entries of a map give each commit the name that the list of names gives it.
abbrev pub AreNames : {A : Type 0} → List (ObjectId × CowSlice ℕ A) → Names → Type 0
AreNames entries names = (q : ObjectId) → name_at (names_of entries) q ≡ name_at names q

-- The manner m has the number of candidates, the fallback, the first-parent flag and the order of the
-- options how.
pub record IsManner (how : How) (m : Manner) : Type 0 where
  pub candidates : m.max_candidates ≡ how.max_candidates
  pub fallback : m.fallback_to_oid ≡ how.fallback_to_id
  pub first_parent : m.first_parent ≡ how.first_parent
  pub tie : m.tie ≡ (if how.git_order then ByMeeting else ById)

-- The answer r describes s by the names and the options how, as IsDescribed says (git-describe). At
-- most 32 names are weighed against each other.
abbrev pub IsDescribedSo : History → ObjectId → Names → How → Option Description → Type 0
IsDescribedSo h s names how r =
    IsDescribed (followed how.first_parent h) s names (min how.max_candidates 32) how.fallback_to_id r

-- The number of the bytes of the text is len. The first ones, as many as fit, are written over the
-- first bytes of the buffer old, which is new then. The rest of the buffer is unchanged.
pub record IsText (text old new : List ℕ) (len : ℕ) : Type 0 where
  pub counted : len ≡ length text
  pub written : new ≡ take (min (length text) (length old)) text ++ drop (min (length text) (length old)) old

-- What is printed of the description d of s. With 0 digits it is the name alone or, without a name,
-- all digits of the id (git-describe, "--abbrev").
abbrev pub printed_text : ObjectId → Description → How → List ℕ
printed_text s d how =
    if how.hex_len == 0 then described_text d.name (hex_text s 40) 0 false
    else described_text d.name (hex_text s how.hex_len) d.depth how.long_form

-- The text of the description d of s is written, and depth is its depth.
pub record IsPrinted (s : ObjectId) (d : Description) (how : How) (old new : List ℕ) (len depth : ℕ) : Type 0 where
  pub text : IsText (printed_text s d how) old new len
  pub depth_is : depth ≡ d.depth

-- A description of s by the names and the options how is printed (git-describe, "Description").
pub record HasDescription (h : History) (s : ObjectId) (names : Names) (how : How) (old new : List ℕ) (len depth : ℕ) : Type 0 where
  pub description : Description
  pub described : IsDescribedSo h s names how (Some description)
  pub printed : IsPrinted s description how old new len depth

-- A walk is needed to describe s: s has no name, there are names, and at least one may be taken.
abbrev pub NeedsWalkSo : ObjectId → Names → How → Type 0
NeedsWalkSo s names how = NeedsWalk s names (min how.max_candidates 32)

-- The code says why s is not described. An allocation failed, the history h does not have s, or s
-- reaches 2^32 commits or more, along first parents if first is set.
abbrev pub IsUndescribed : History → ObjectId → Bool → ℤ → Type 0
IsUndescribed h s first code =
    (code ≡ OUT_OF_MEMORY) ⊎ (((code ≡ NO_COMMIT) × (¬ Has h s))
    ⊎ ((code ≡ TOO_MANY) × AtLeast (2 ^ 32) (IsAncestor (followed first h) s)))

-- If the code says that s is missing or that too many commits are reached, a walk is needed.
unfoldable pub TellsWalk : {A : Type 0} → ObjectId → Options A → ℤ → Type 0
TellsWalk s options code = (code ≡ NO_COMMIT) ⊎ (code ≡ TOO_MANY) → Walks s options
