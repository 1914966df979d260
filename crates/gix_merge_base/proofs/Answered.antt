-- What is answered once the best common ancestors are found.
use Rattle.std.proofs.Common.{◌≡◌, Bool, false, refl, sym, ◌∙◌, List, [], ◌∷◌, ◌↔◌, IsTrue, Option, Some, None, length, ◌==◌}
use Rattle.std.specs.Prelude.{IsNone}
use Rattle.std.specs.Option.{IfSome}
use Rattle.gix_base.specs.NonEmpty.{all_of}
use Rattle.gix_base.specs.declared.error.NonEmpty.{NonEmpty}
use Rattle.gix_base.specs.declared.hash.ObjectId.{ObjectId}
use Rattle.gix_revwalk.specs.History.{History, is_one_of}
use Rattle.gix_merge_base.specs.Bases.{IsCommon, IsMaximal, ids_of, is_trivial, IsBase}

pub from-vec : {A : Type 0} (r : Option (NonEmpty ObjectId A)) (xs : List ObjectId) → (IsNone r ↔ (xs ≡ [])) → IfSome r (λ l. all_of l ≡ xs) → ids_of r ≡ xs
from-vec None xs none same = sym (none.0 refl)
from-vec (Some n) xs none same = same

pub not_plain : (os : List ObjectId) (f : ObjectId) (a b : Bool) → a ≡ (length os == 0) → a ≡ false → b ≡ is_one_of os f → b ≡ false → is_trivial f os ≡ false
not_plain [] f a b h i j k = cc
not_plain (x ∷ xs) f a b h i j k = sym j ∙ k

pub base-from_max : (h : History) (f : ObjectId) (os : List ObjectId) → is_trivial f os ≡ false → (c : ObjectId) → IsMaximal h (IsCommon h f os) c → IsBase h f os c
base-from_max h f os plain c max = rw plain max

pub bases-found : (h : History) (f : ObjectId) (os xs : List ObjectId) → is_trivial f os ≡ false → (c : ObjectId) → (IsTrue (is_one_of xs c) ↔ IsMaximal h (IsCommon h f os) c) → IsTrue (is_one_of xs c) ↔ IsBase h f os c
bases-found h f os xs plain c is = rw plain is
