-- What the readers of describe texts rest on.
use Rattle.std.proofs.Common.{◌≡◌, ℕ, zero, suc, ◌<◌, ◌&&◌, List, [], ◌∷◌, Bool, true, Option, Some, length, drop, refl, arith}
use Rattle.std.proofs.lemmas.Bool.{false≢true, le-leb}
use Rattle.std.proofs.lemmas.List.Sums.{list_all-from_AllPass}
use Rattle.std.specs.Str.{str_to_ascii_lowercase}
use Rattle.hex.specs.Hex.{is_hex_digit}
use Rattle.gix_base.specs.Prefix.{IsPrefixText}
use Rattle.gix_spec.specs.Call.{Hint}
use Rattle.gix_spec.specs.DescribeText.{is_id_token, prefix_with}

pub both_true : {a b : Bool} → a ≡ true → b ≡ true → (a && b) ≡ true
both_true h k = rw h k

-- a token of an id is not empty
pub has_first : (text : List ℕ) (k : ℕ) → is_id_token (drop k text) ≡ true → k < length text
unfolding is_id_token
has_first [] zero h = absurd (false≢true h)
has_first [] (suc k) h = absurd (false≢true h)
has_first (b ∷ rest) zero h = omega arith
has_first (b ∷ rest) (suc k) h = let shorter : k < length rest = has_first rest k h in omega arith

-- 4 to 40 digits are what is tried as a prefix, and nothing else is
pub prefix_with-some : (digits : List ℕ) (hint : Option Hint) → IsPrefixText digits → prefix_with digits hint ≡ Some (str_to_ascii_lowercase digits, hint)
prefix_with-some digits hint h = rw (list_all-from_AllPass is_hex_digit digits h.2, le-leb 4 (length digits) h.0, le-leb (length digits) 40 h.1) refl
