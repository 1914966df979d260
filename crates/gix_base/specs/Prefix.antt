-- What prefixes say: git-rev-parse, "Specifying Revisions", `<sha1>` by a leading substring;
-- git-config, `core.abbrev`, whose least number of digits is 4.
use Rattle.std.specs.Prelude.{◌≡◌, ℕ, List, length, take, ◌≤◌}
use Rattle.std.specs.declared.cmp.Ordering.{Ordering}
use Rattle.std.specs.Ordering.{nat_cmp, ordering_then}
use Rattle.std.specs.Cmp.Lexicographic.{slice_cmp}
use Rattle.gix_base.specs.Digits.{AreDigits, bytes_of}
use Rattle.gix_base.specs.Hash.{id_text, padded}
use Rattle.gix_base.specs.declared.hash.ObjectId.{ObjectId}
use Rattle.gix_base.specs.declared.hash.Prefix.{Prefix}

-- The digits of a prefix, in lower case.
abbrev pub prefix_text : Prefix → List ℕ
prefix_text p = take p.hex_len (id_text p.id)

-- A text names a prefix if it has 4 to 40 bytes and each is a hex digit, in either letter case.
abbrev pub IsPrefixText : List ℕ → Type 0
IsPrefixText text = (4 ≤ length text) × (length text ≤ 40) × AreDigits text

-- The prefix of all 40 digits of an id.
abbrev pub IsFullPrefix : Prefix → ObjectId → Type 0
IsFullPrefix p id = prefix_text p ≡ id_text id

-- The digits of the id begin with the digits of the prefix.
abbrev pub BeginsWith : ObjectId → Prefix → Type 0
BeginsWith id p = take (length (prefix_text p)) (id_text id) ≡ prefix_text p

-- How the digits of a prefix compare with as many leading digits of an id. The first that differs
-- decides.
abbrev pub order_against : Prefix → ObjectId → Ordering
order_against p id = slice_cmp nat_cmp (prefix_text p) (take (length (prefix_text p)) (id_text id))

-- The bytes of the digits of a prefix, filled up with the digit 0.
abbrev pub padded_bytes : Prefix → List ℕ
padded_bytes p = bytes_of (padded (prefix_text p))

-- The order of prefixes: by their padded bytes, then by the number of digits.
abbrev pub prefix_order : Prefix → Prefix → Ordering
prefix_order p q =
    let by_bytes = slice_cmp nat_cmp (padded_bytes p) (padded_bytes q) in
    let by_number = nat_cmp (length (prefix_text p)) (length (prefix_text q)) in
    ordering_then by_bytes by_number
