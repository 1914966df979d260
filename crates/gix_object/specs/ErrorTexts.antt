-- The texts of the errors.
use Rattle.std.specs.Prelude.{ℕ, List, codes}
use Rattle.gix_object.specs.declared.commit.ParseError.{ParseError}
use Rattle.gix_object.specs.declared.commit.ParseError.TheVariants.{BadTree, BadParent, TimeOutOfRange, OutOfMemory}
use Rattle.gix_object.specs.declared.tag.ParseError.{ParseError as TagError}
use Rattle.gix_object.specs.declared.tag.ParseError.TheVariants.{BadObject, BadType, UnknownType, NoName}
use Rattle.gix_object.specs.declared.authentic.ReadError.{ReadError}
use Rattle.gix_object.specs.declared.authentic.ReadError.TheVariants.{WrongId, Parse}

-- The text that an error of `commit::parse` prints.
abbrev pub commit_error_text : ParseError → List ℕ
commit_error_text BadTree = codes "commit has no well-formed tree line"
commit_error_text BadParent = codes "commit has a malformed parent line"
commit_error_text TimeOutOfRange = codes "time of the commit is 2^63 seconds or more"
commit_error_text OutOfMemory = codes "out of memory"

-- The text that an error of `tag::parse` prints.
abbrev pub tag_error_text : TagError → List ℕ
tag_error_text BadObject = codes "tag has no well-formed object line"
tag_error_text BadType = codes "tag has no well-formed type line"
tag_error_text UnknownType = codes "tag has an unknown type"
tag_error_text NoName = codes "tag has no tag line"

-- The text that an error of `authentic::read` prints.
abbrev pub read_error_text : ReadError → List ℕ
read_error_text WrongId = codes "content of the commit has another id"
read_error_text (Parse error) = commit_error_text error
