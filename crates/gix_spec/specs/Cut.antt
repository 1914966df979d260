-- The end of the name at the front of a text.
use Rattle.std.specs.Prelude.{ℕ, zero, suc, ◌+◌, ◌==◌, ◌&&◌, ◌||◌, not, List, Bool, length, nat_lt, slice_index, if◌then◌else◌}
use Rattle.gix_spec.specs.Marks.{tilde, caret, colon, dot, at_sign, brace, least_from}

-- Byte b begins a step: it is `~`, `^` or `:`.
abbrev pub is_mark : ℕ → Bool
is_mark b = (b == tilde) || (b == caret) || (b == colon)

-- Two dots begin at place k of text.
abbrev pub two_dots_at : (text : List ℕ) → (k : ℕ) → Bool
two_dots_at text k = (slice_index text k == dot) && (slice_index text (k + 1) == dot)

-- The place after the last dot before place k, or 0 if there is no dot.
abbrev pub after_dot : (text : List ℕ) → (k : ℕ) → ℕ
after_dot text zero = 0
after_dot text (suc k) = if slice_index text k == dot then k + 1 else after_dot text k

-- Byte b may follow an `@` that ends a name.
abbrev pub may_follow : ℕ → Bool
may_follow b = (b == brace) || is_mark b || (b == dot)

-- An `@` at place k ends the name, whose part after its last dot begins at s. This is so if that
-- part is the last byte of text, or if `{`, `~`, `^`, `:` or a dot follows the `@`; but two dots
-- that follow count only if s is not below k.
unfoldable pub at_ends : (text : List ℕ) → (s k : ℕ) → Bool
at_ends text s k =
    (s + 1 == length text) || (may_follow (slice_index text (k + 1)) && not (nat_lt s k && two_dots_at text (k + 1)))

-- The name ends at place k: at a mark of a step, at two dots, or at an `@` that ends it.
unfoldable pub ends_name : (text : List ℕ) → (s k : ℕ) → Bool
ends_name text s k =
    is_mark (slice_index text k) || two_dots_at text k || ((slice_index text k == at_sign) && at_ends text s k)

-- The length of the name: the least place at which it ends, or else the length of text.
unfoldable pub cut_of : (text : List ℕ) → ℕ
cut_of text = least_from (λ k. ends_name text (after_dot text k) k) (length text) 0
