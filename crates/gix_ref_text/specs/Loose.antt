-- What the file of a loose reference says (gitrepository-layout, "refs"; git-symbolic-ref).
use Rattle.std.specs.Prelude.{ℕ, List, [], ◌∷◌, Bool, true, ◌==◌, ◌||◌, cond, Option, None, Some, take, drop, codes, nat_eq}
use Rattle.std.specs.Cmp.Lexicographic.{pointwise}
use Rattle.gix_ref_text.specs.Lines.{before_zero, id_of}
use Rattle.gix_ref_text.specs.Names.{is_name}

-- What a reference says. HasId is an id, with the object to which a tag of this id leads, if that
-- is known. LeadsTo is the name of another reference. IsGarbage is neither.
pub data Says : Type 0 where
  HasId : List ℕ → Option (List ℕ) → Says
  LeadsTo : List ℕ → Says
  IsGarbage : Says

-- A byte is white space for git.
abbrev pub is_blank : ℕ → Bool
is_blank b = b == 32 || b == 9 || b == 10 || b == 13

-- A byte that is put before a text, unless it is white space and nothing follows.
abbrev pub before_blanks : ℕ → List ℕ → List ℕ
before_blanks b [] = cond (is_blank b) [] (b ∷ [])
before_blanks b (x ∷ xs) = b ∷ x ∷ xs

-- What comes before the white space at the end of a text.
abbrev pub trimmed_end : List ℕ → List ℕ
trimmed_end [] = []
trimmed_end (b ∷ bs) = before_blanks b (trimmed_end bs)

-- What comes after the white space at the front of a text.
abbrev pub trimmed_start : List ℕ → List ℕ
trimmed_start [] = []
trimmed_start (b ∷ bs) = cond (is_blank b) (trimmed_start bs) (b ∷ bs)

-- The digits of an id may end before a text: it is empty or begins with white space.
abbrev pub ends_digits : List ℕ → Bool
ends_digits [] = true
ends_digits (b ∷ bs) = is_blank b

-- The bytes of the id whose 40 digits a text begins with. White space or the end of the text has to
-- follow.
abbrev pub id_at_front : List ℕ → Option (List ℕ)
id_at_front text = cond (ends_digits (drop 40 text)) (id_of (take 40 text)) None

-- What the name of a reference says after `ref:`.
abbrev pub says_name : List ℕ → Says
says_name name = cond (is_name name) (LeadsTo name) IsGarbage

-- What an id says, if there is one.
abbrev pub says_id : Option (List ℕ) → Says
says_id None = IsGarbage
says_id (Some id) = HasId id None

-- What the text in the file of a reference says: after `ref:`, the name of a reference; otherwise
-- the id at its front. If there is neither, it is garbage.
abbrev pub text_says : List ℕ → Says
text_says text = cond (pointwise nat_eq (take 4 text) (codes "ref:")) (says_name (trimmed_start (drop 4 text))) (says_id (id_at_front text))

-- A name is FETCH_HEAD or MERGE_HEAD: git does not trim the files of these two.
abbrev pub is_untrimmed : List ℕ → Bool
is_untrimmed name = pointwise nat_eq name (codes "FETCH_HEAD") || pointwise nat_eq name (codes "MERGE_HEAD")

-- The text in the bytes of the file of the reference name: what comes before white space at the end,
-- unless git does not trim it, and before the first zero byte.
abbrev pub text_of : List ℕ → List ℕ → List ℕ
text_of name bytes = before_zero (cond (is_untrimmed name) bytes (trimmed_end bytes))

-- What the bytes of the file of the loose reference name say.
abbrev pub loose_says : List ℕ → List ℕ → Says
loose_says name bytes = text_says (text_of name bytes)
