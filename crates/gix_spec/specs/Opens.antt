-- The pair of braces that the code reads.
use Rattle.std.specs.Prelude.{◌≡◌, ℕ, suc, ◌<◌, List, Option, Some, None, Result, Ok, Err, true, false, length}
use Rattle.std.specs.Option.{IsSomeAnd}
use Rattle.std.specs.Cow.{cow_slice_items, IsBorrowedSlice}
use Rattle.std.specs.Borrow.{Bor}
use Rattle.gix_spec.specs.declared.spec.parse.Error.{Error}
use Rattle.gix_spec.specs.declared.spec.parse.Error.TheVariants as errors
use Rattle.gix_spec.specs.declared.spec.parse.braces.Unopened.{Unopened}
use Rattle.gix_spec.specs.declared.spec.parse.braces.Unopened.TheVariants.{OutOfMemory, Unclosed}
use Rattle.gix_spec.specs.declared.spec.parse.fault.Fault.TheVariants.{UnclosedBrace}
use Rattle.gix_spec.specs.declared.spec.parse.braces.Braced.{Braced as FoundBraced}
use Rattle.gix_spec.specs.Braces.{Braced, counted, close_of, braced_at}

-- As many braces close as open in the first n + 1 places of text.
abbrev pub IsLevel : (text : List ℕ) → (n : ℕ) → Type 0
IsLevel text n = counted 123 text (suc n) ≡ counted 125 text (suc n)

-- The place n is the least place of text up to which as many braces close as open.
abbrev pub IsClose : (text : List ℕ) → (n : ℕ) → Type 0
IsClose text n = (n < length text) × IsLevel text n × ((k : ℕ) → k < n → IsLevel text k → ⊥)

-- The pair that the code keeps.
abbrev pub braced_of : {A : Type 0} → FoundBraced A → Braced
braced_of x = record { raw = x.raw.now; meant = cow_slice_items x.meant; escapes = x.escapes; rest = x.rest.now }

-- A pair could not be read. Either memory ran out, and the pair has an escape; or the pair does not
-- close.
abbrev pub NotOpened : Option Braced → Unopened → Type 0
NotOpened pair OutOfMemory = IsSomeAnd pair (λ x. x.escapes ≡ true)
NotOpened pair Unclosed = pair ≡ None

-- The error for a pair that could not be read at the front of text.
abbrev pub unopened_error : Unopened → (text : Bor (List ℕ)) → Error
unopened_error OutOfMemory text = errors.OutOfMemory
unopened_error Unclosed text = errors.Refused UnclosedBrace (Some text) None None

-- Either the pair at the front of text was read, and its inner text is borrowed if it has no
-- escape; or it could not be read.
abbrev pub Opens : {A : Type 0} → (text : List ℕ) → Result (FoundBraced A) Unopened → Type 0
Opens text (Ok x) = (braced_at text ≡ Some (braced_of x)) × (0 < close_of text) × (x.escapes ≡ false → IsBorrowedSlice x.meant)
Opens text (Err e) = NotOpened (braced_at text) e
