-- What is known of the bytes of a file.
use Rattle.std.specs.Prelude.{◌≡◌, ℕ, List, length, take, drop}

-- The bytes are those of the file s from an offset on.
abbrev pub IsPart : List ℕ → ℕ → List ℕ → Type 0
IsPart s at bytes = take (length bytes) (drop at s) ≡ bytes
