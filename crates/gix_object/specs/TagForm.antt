-- The content of a tag as git reads it: git-mktag, "TAG FORMAT". Git reads malformed contents as its
-- function parse_tag_buffer says.
use Rattle.std.specs.Prelude.{◌≡◌, ◌≢◌, ℕ, ◌<◌, ◌≤◌, true, List, length, drop, codes, if◌then◌else◌}
use Rattle.gix_base.specs.declared.hash.ObjectId.{ObjectId}
use Rattle.gix_base.specs.declared.object.Kind.{Kind}
use Rattle.gix_object.specs.CommitTime.{date_at}
use Rattle.gix_object.specs.Lines.{begins, Occurs, before, after, IsIdLine, id_at, line_feed}
use Rattle.gix_object.specs.ObjectForm.{kind_name}
use Rattle.gix_object.specs.declared.tag.ParseError.{ParseError}
use Rattle.gix_object.specs.declared.tag.ParseError.TheVariants.{BadObject, BadType, UnknownType, NoName}

-- The text has 64 bytes or more, and begins with the line of an object.
pub record HasObject (text : List ℕ) : Type 0 where
  pub long : 64 ≤ length text
  pub line : IsIdLine (codes "object ") text

-- The text begins with the line of a type, with fewer than 20 bytes after the word `type`.
pub record HasType (text : List ℕ) : Type 0 where
  pub word : begins (codes "type ") text ≡ true
  pub ends : Occurs line_feed (drop 5 text)
  pub short : length (before line_feed (drop 5 text)) < 20

-- The type that the line has. If there is a byte 0 in it, only the bytes before that count.
abbrev pub type_of : List ℕ → List ℕ
type_of text = before 0 (before line_feed (drop 5 text))

-- The text begins with the line of the tag's name, which may be empty.
pub record HasName (text : List ℕ) : Type 0 where
  pub word : begins (codes "tag ") text ≡ true
  pub ends : Occurs line_feed (drop 4 text)

-- The name that this line has.
abbrev pub name_of : List ℕ → List ℕ
name_of text = before line_feed (drop 4 text)

-- The date after the first `>` of the text, if the text begins with `tagger `; otherwise 0.
unfoldable pub tagged_at : List ℕ → ℕ
tagged_at text = if begins (codes "tagger ") text then date_at (after 62 text) else 0

-- The date of the tagger in the line after the line of the name; 0 if that is no tagger's line.
abbrev pub date_in : List ℕ → ℕ
date_in text = tagged_at (after line_feed (drop 4 text))

-- The lines after the lines of the object and of the type.
abbrev pub lines_of_name : List ℕ → List ℕ
lines_of_name text = after line_feed (drop 48 text)

-- The text begins with the line of this target, the line of its kind, and the line of this name.
-- The line of the tagger has this date, or the date is 0 if there is no such line.
pub record IsTag (text : List ℕ) (target : ObjectId) (kind : Kind) (name : List ℕ) (date : ℕ) : Type 0 where
  pub object : HasObject text
  pub names : target ≡ id_at text 7
  pub type : HasType (drop 48 text)
  pub says : kind_name kind ≡ type_of (drop 48 text)
  pub named : HasName (lines_of_name text)
  pub calls : name ≡ name_of (lines_of_name text)
  pub dates : date ≡ date_in (lines_of_name text)

-- Why the text is not read: the first of its three lines that is missing or malformed, or a type
-- that is not the name of a kind. A text of fewer than 64 bytes has no line of an object.
abbrev pub IsRefused : List ℕ → ParseError → Type 0
IsRefused text BadObject = ¬ HasObject text
IsRefused text BadType = HasObject text × (¬ HasType (drop 48 text))
IsRefused text UnknownType =
    HasObject text × HasType (drop 48 text) × ((kind : Kind) → kind_name kind ≢ type_of (drop 48 text))
IsRefused text NoName =
    HasObject text × HasType (drop 48 text) × ((kind : Kind) × (kind_name kind ≡ type_of (drop 48 text)))
    × (¬ HasName (lines_of_name text))
