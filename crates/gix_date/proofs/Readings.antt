-- What a text means, by the form that reads it.
use Rattle.std.proofs.Common.{◌≡◌, ℕ, List, true, false, Some, None, Result, Err, refl}
use Rattle.std.specs.Str.{is_utf8}
use Rattle.gix_base.specs.declared.date.Time.{Time}
use Rattle.gix_date.specs.declared.date.error.DateError.{DateError}
use Rattle.gix_date.specs.declared.date.error.DateError.TheVariants.{NotADate}
use Rattle.gix_date.specs.Date.{date_of}
use Rattle.gix_date.specs.Iso8601Date.{iso8601_date}
use Rattle.gix_date.specs.RawDate.{raw_date}
use Rattle.gix_date.specs.RelativeDate.{relative_date}
use Rattle.gix_date.specs.Rfc2822Date.{rfc2822_date}
use Rattle.gix_date.specs.ShortDate.{short_date}
use Rattle.gix_date.specs.WordDate.{word_date}

pub date_of-no_text : (text : List ℕ) (now : Time) → is_utf8 text ≡ false → Err NotADate ≡ date_of text now
unfolding date_of
date_of-no_text text now u = rw u refl

pub date_of-raw : (text : List ℕ) (now : Time) (r : Result Time DateError) → is_utf8 text ≡ true → Some r ≡ raw_date text → r ≡ date_of text now
unfolding date_of
date_of-raw text now r u raw = rw (u, ← raw) refl

pub date_of-short : (text : List ℕ) (now : Time) (r : Result Time DateError) → is_utf8 text ≡ true → None ≡ raw_date text → Some r ≡ short_date text → r ≡ date_of text now
unfolding date_of
date_of-short text now r u raw day = rw (u, ← raw, ← day) refl

pub date_of-iso8601 : (text : List ℕ) (now : Time) (r : Result Time DateError) → is_utf8 text ≡ true → None ≡ raw_date text → None ≡ short_date text → Some r ≡ iso8601_date text now → r ≡ date_of text now
unfolding date_of
date_of-iso8601 text now r u raw day clock = rw (u, ← raw, ← day, ← clock) refl

pub date_of-word : (text : List ℕ) (now : Time) (r : Result Time DateError) → is_utf8 text ≡ true → None ≡ raw_date text → None ≡ short_date text → None ≡ iso8601_date text now → Some r ≡ word_date text now → r ≡ date_of text now
unfolding date_of
date_of-word text now r u raw day clock word = rw (u, ← raw, ← day, ← clock, ← word) refl

pub date_of-relative : (text : List ℕ) (now : Time) (r : Result Time DateError) → is_utf8 text ≡ true → None ≡ raw_date text → None ≡ short_date text → None ≡ iso8601_date text now → None ≡ word_date text now → Some r ≡ relative_date text now → r ≡ date_of text now
unfolding date_of
date_of-relative text now r u raw day clock word ago = rw (u, ← raw, ← day, ← clock, ← word, ← ago) refl

pub date_of-rfc2822 : (text : List ℕ) (now : Time) (r : Result Time DateError) → is_utf8 text ≡ true → None ≡ raw_date text → None ≡ short_date text → None ≡ iso8601_date text now → None ≡ word_date text now → None ≡ relative_date text now → r ≡ rfc2822_date text → r ≡ date_of text now
unfolding date_of
date_of-rfc2822 text now r u raw day clock word ago mail = rw (u, ← raw, ← day, ← clock, ← word, ← ago) mail
