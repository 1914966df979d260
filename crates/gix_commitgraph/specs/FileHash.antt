-- The hash at the end of a file (gitformat-commit-graph, "TRAILER").
use Rattle.std.specs.Prelude.{◌≡◌, ℕ, ◌-◌, List, length, take, drop}
use Rattle.sha1.specs.Sha1.{sha1}

-- The last 20 bytes are the SHA-1 of all bytes before them.
abbrev pub HashIsRight : List ℕ → Type 0
HashIsRight s = drop (length s - 20) s ≡ sha1 (take (length s - 20) s)
