-- The commits that a spec means (gitrevisions, "Specifying Ranges"; git-rev-list, "Description").
use Rattle.std.specs.Prelude.{◌≡◌, ◌⊎◌, ◌↔◌, ℕ, List, IsTrue, take, Option, Some, None}
use Rattle.std.specs.List.{filter}
use Rattle.std.specs.Ordering.{is_gt}
use Rattle.std.specs.List.Sorted.{IsStrictlySortedBy}
use Rattle.gix_base.specs.Hash.{id_order}
use Rattle.gix_base.specs.declared.hash.ObjectId.{ObjectId}
use Rattle.gix_revwalk.specs.History.{History, Has, IsAncestor, IsAncestorOfOne, entry_at, is_one_of, parents_in}
use Rattle.gix_spec.specs.declared.spec.Spec.{Spec}
use Rattle.gix_spec.specs.declared.spec.Spec.TheVariants.{Include, Exclude, Range, Merge, IncludeOnlyParents, ExcludeParents}

-- Commit c is one of the commits that the spec means in history h. For `a`, a reaches c. For `^a`,
-- there is none. For `a..b`, b reaches c and a does not. For `a...b`, exactly one of a and b
-- reaches c. For `a^@`, a parent of a reaches c. For `a^!`, c is a, and h has it (gitrevisions,
-- "Specifying Ranges").
abbrev pub IsMeant : History → Spec → ObjectId → Type 0
IsMeant h (Include a) c = IsAncestor h a c
IsMeant h (Exclude a) c = ⊥
IsMeant h (Range a b) c = IsAncestor h b c × (¬ IsAncestor h a c)
IsMeant h (Merge a b) c =
    (IsAncestor h a c × (¬ IsAncestor h b c)) ⊎ (IsAncestor h b c × (¬ IsAncestor h a c))
IsMeant h (IncludeOnlyParents a) c = IsAncestorOfOne h (parents_in (entry_at h a)) c
IsMeant h (ExcludeParents a) c = Has h a × (c ≡ a)

-- The list ids has exactly the commits that the spec means, each once, in rising order of their
-- ids.
pub record ListsMeant (h : History) (spec : Spec) (ids : List ObjectId) : Type 0 where
  pub meant : (c : ObjectId) → IsTrue (is_one_of ids c) ↔ IsMeant h spec c
  pub rising : IsStrictlySortedBy id_order ids

-- The ids that are greater than the bound. Without a bound, all ids.
abbrev pub past : Option ObjectId → List ObjectId → List ObjectId
past None ids = ids
past (Some bound) ids = filter (λ c. is_gt (id_order c bound)) ids

-- The list ids is a page: the first `limit` ids greater than the bound, of the list of the spec.
abbrev pub IsPage : History → Spec → Option ObjectId → (limit : ℕ) → List ObjectId → Type 0
IsPage h spec bound limit ids =
    (all : List ObjectId) × ListsMeant h spec all × (ids ≡ take limit (past bound all))
