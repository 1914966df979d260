-- What is behind a name in a word says whether the word is the option.
use Rattle.std.proofs.Common.{◌≡◌, ◌++◌, ℕ, List, Option, None, Some, MatchOption, sym, ◌∙◌, subst}
use Rattle.std.proofs.lemmas.List.{append_cancel_left}
use Rattle.parse_options.specs.declared.exact.Exact.{Exact}
use Rattle.parse_options.specs.declared.exact.Holds.{Holds}
use Rattle.parse_options.specs.Exact.{Held, held_of, name, takes, IsHeld, Reads}

pub read_behind : {K : Type 0} (option : Exact K) (word rest : List ℕ) (holds : Option Holds) → word ≡ name option ++ rest
    → MatchOption holds ((held : Held) → IsHeld (takes option) rest held → ⊥) (λ h. IsHeld (takes option) rest (held_of h))
    → MatchOption holds ((held : Held) → Reads option word held → ⊥) (λ h. Reads option word (held_of h))
read_behind option word rest None is none = λ held read.
    none held (subst (λ x. IsHeld (takes option) x held) (append_cancel_left (name option) read.0 rest (sym read.1 ∙ is)) read.2)
read_behind option word rest (Some h) is value = (rest, is, value)
