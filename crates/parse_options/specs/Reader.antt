-- What is left of a command line, by the fields of a reader.
use Rattle.std.specs.Prelude.{ℕ, ◌-◌, List, [], ◌∷◌, cond, nat_eq, Option, None, Some, map, drop, slice_index_or}
use Rattle.std.specs.Borrow.{Bor}
use Rattle.parse_options.specs.declared.reader.Reader.TheInside.{Inside}
use Rattle.parse_options.specs.Line.{Line}

-- The words as texts.
abbrev pub texts : List (Bor (List ℕ)) → List (List ℕ)
texts words = map (λ x. x.now) words

-- The word at a place; no letters past the end.
abbrev pub text_at : List (Bor (List ℕ)) → (place : ℕ) → List ℕ
text_at words place = slice_index_or (texts words) place []

-- What is left of a command line. The letters are those of the word before the next one.
abbrev pub line_of : {K : Type 0} → Inside K → Line K
line_of r = record {
  choices = r.choices.now;
  letters = cond (nat_eq r.letter 0) [] (drop r.letter (text_at r.words.now (r.next - 1)));
  words = drop r.next (texts r.words.now);
  only_arguments = r.is_after_end;
}

-- The first of some words.
abbrev pub first : List (List ℕ) → Option (List ℕ)
first [] = None
first (word ∷ words) = Some word

-- The first of some words; no letters if there is none.
abbrev pub first_text : List (List ℕ) → List ℕ
first_text [] = []
first_text (word ∷ words) = word
