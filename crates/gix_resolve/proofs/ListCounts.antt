-- The number of commits that a spec means.
use Rattle.std.proofs.Common.{◌≡◌, ℕ, ◌+◌, ◌-◌, refl, List, [], ◌∷◌, ◌++◌, drop, length, is_some, true, false, arith}
use Rattle.std.proofs.lemmas.List.{length-map, length-drop, length-append}
use Rattle.gix_base.specs.declared.hash.ObjectId.{ObjectId}
use Rattle.gix_revwalk.specs.History.{History, entry_at, parents_in, IsBeyond}
use Rattle.gix_revwalk.specs.Graph.{Graphed}
use Rattle.gix_revwalk.specs.Number.{place_in}
use Rattle.gix_revwalk.specs.Sizes.{Lists, HasSize}
use Rattle.gix_revwalk.specs.declared.numbers.Number.{Number}
use Rattle.gix_merge_base.specs.PaintQueue.{id_at, ids_at}
use Rattle.gix_spec.specs.declared.spec.Spec.{Spec}
use Rattle.gix_spec.specs.declared.spec.Spec.TheVariants.{Include, Exclude, Merge, IncludeOnlyParents, ExcludeParents}
use Rattle.gix_resolve.specs.ListMeaning.{IsMeant}
use Rattle.gix_resolve.proofs.ListMembers.{lists-include, lists-exclude, lists-parents, lists-merge, lists-alone, lists-not_alone}

-- a list that has the one set has the other
pub size-same : (P Q : ObjectId → Type 0) (n : ℕ) → ((xs : List ObjectId) → Lists xs P → Lists xs Q) → HasSize P n → HasSize Q n
size-same P Q n to k = (k.0, to k.0 k.1, k.2)

pub size-include : (h : History) (a : ObjectId) (n : ℕ) → HasSize (IsBeyond h [] (a ∷ [])) n → HasSize (IsMeant h (Include a)) n
size-include h a n k = size-same (IsBeyond h [] (a ∷ [])) (IsMeant h (Include a)) n (λ xs l. lists-include h a xs l) k

pub size-exclude : (h : History) (spec : Spec) (a : ObjectId) → spec ≡ Exclude a → HasSize (IsMeant h spec) 0
size-exclude h spec a is = ([], lists-exclude h spec a [] is refl, refl)

pub size-parents : (h : History) (a : ObjectId) (ps : List ObjectId) (n : ℕ) → ps ≡ parents_in (entry_at h a) → HasSize (IsBeyond h [] ps) n → HasSize (IsMeant h (IncludeOnlyParents a)) n
size-parents h a ps n is k = size-same (IsBeyond h [] ps) (IsMeant h (IncludeOnlyParents a)) n (λ xs l. lists-parents h a ps xs is l) k

pub size-alone : (h : History) (a : ObjectId) → is_some (entry_at h a) ≡ true → HasSize (IsMeant h (ExcludeParents a)) 1
size-alone h a has = (a ∷ [], lists-alone h a (a ∷ []) refl has, refl)

pub size-not_alone : (h : History) (a : ObjectId) → is_some (entry_at h a) ≡ false → HasSize (IsMeant h (ExcludeParents a)) 0
size-not_alone h a lacks = ([], lists-not_alone h a [] refl lacks, refl)

-- the sides of two commits share nothing
pub size-merge : (h : History) (a b : ObjectId) (n k : ℕ) → HasSize (IsBeyond h (b ∷ []) (a ∷ [])) n → HasSize (IsBeyond h (a ∷ []) (b ∷ [])) k → HasSize (IsMeant h (Merge a b)) (n + k)
size-merge h a b n k left right = (
  left.0 ++ right.0,
  lists-merge h a b left.0 right.0 (left.0 ++ right.0) refl left.1 right.1,
  let both = length-append left.0 right.0 in let one = left.2 in let two = right.2 in omega arith,
)

-- the items after a place
pub size-behind : {S T : Type 0} (P : ObjectId → Type 0) (g : Graphed S T) (ns : List Number) (i n : ℕ) → n ≡ length ns - i → Lists (drop i (ids_at g ns)) P → HasSize P n
size-behind P g ns i n is listed = (
  drop i (ids_at g ns),
  listed,
  let cut = length-drop i (ids_at g ns) in let len = length-map ns (λ (k : Number). id_at g (place_in k)) in omega arith,
)
