-- The answer about the braces at the front of a text.
use Rattle.std.specs.Prelude.{◌≡◌, ℕ, ◌+◌, ◌-◌, ◌<◌, ◌≤◌, List, Option, Some, None, option_map, Result, Ok, Err, true, false, length, drop}
use Rattle.std.specs.Borrow.{Bor}
use Rattle.std.specs.Cow.{cow_slice_items, IsBorrowedSlice}
use Rattle.std.specs.declared.borrow.CowSlice.{CowSlice}
use Rattle.gix_spec.specs.declared.spec.parse.Error.{Error}
use Rattle.gix_spec.specs.declared.spec.parse.Error.TheVariants.{OutOfMemory, Refused}
use Rattle.gix_spec.specs.declared.spec.parse.fault.Fault.TheVariants.{UnclosedBrace}
use Rattle.gix_spec.specs.Marks.{brace, starts_with}
use Rattle.gix_spec.specs.Braces.{close_of, has_escape, meant_of}

-- The pair at the front of text takes all bytes up to its closing brace. Its inner text is borrowed
-- if it has no escape.
pub record IsPair {A : Type 0} (text : List ℕ) (x : CowSlice ℕ A × Bor (List ℕ) × ℕ) : Type 0 where
  pub begins : starts_with brace text ≡ true
  pub closes : x.2 ≡ close_of text + 1
  pub within : x.2 ≤ length text
  pub inner : cow_slice_items x.0 ≡ meant_of text (x.2 - 2)
  pub rest : x.1.now ≡ drop x.2 text
  pub borrowed : has_escape text x.2 ≡ false → IsBorrowedSlice x.0

-- The answer is None if text does not begin with a brace, and else the pair. The call fails if
-- memory ran out and the pair has an escape, or if the pair does not close.
abbrev pub ParensGives : {A : Type 0} → (text : List ℕ) → Result (Option (CowSlice ℕ A × Bor (List ℕ) × ℕ)) Error → Type 0
ParensGives text (Ok None) = starts_with brace text ≡ false
ParensGives text (Ok (Some x)) = IsPair text x
ParensGives text (Err OutOfMemory) =
    (starts_with brace text ≡ true) × (close_of text < length text) × (has_escape text (close_of text + 1) ≡ true)
ParensGives text (Err (Refused f input first second)) =
    (starts_with brace text ≡ true) × (close_of text ≡ length text) × (f ≡ UnclosedBrace) × (option_map (λ x. x.now) input ≡ Some text) × (first ≡ None) × (second ≡ None)
