-- The texts of errors, and of what they name.
use Rattle.std.specs.Prelude.{ℕ, ◌==◌, List, ◌++◌, codes, take, cond, encode_utf8_all, Option, Some, None}
use Rattle.std.specs.Fmt.{decimal}
use Rattle.bstr.specs.Utf8.{lossy_chars}
use Rattle.gix_base.specs.Hash.{id_text}
use Rattle.gix_object.specs.ObjectForm.{kind_name}
use Rattle.gix_object.specs.ErrorTexts.{commit_error_text, tag_error_text}
use Rattle.gix_odb.specs.declared.error.PackName.{PackName}
use Rattle.gix_odb.specs.declared.error.FileKind.{FileKind}
use Rattle.gix_odb.specs.declared.error.FileKind.TheVariants.{Objects, Alternates, Packs, Index, Pack, Loose}
use Rattle.gix_odb.specs.declared.error.FileName.{FileName}
use Rattle.gix_odb.specs.declared.error.Error.{Error}
use Rattle.gix_odb.specs.declared.error.Error.TheVariants.{Missing, Altered, NotACommit, Malformed, NotATag, MalformedTag, Damaged, Unsupported, Failed, OutOfMemory}
use Rattle.gix_odb.specs.declared.error.Damage.{Damage}
use Rattle.gix_odb.specs.declared.error.Damage.TheVariants.{CutOff, TooLong, OtherPack, Fanout, Header, Stream, Delta, Base, Circle}
use Rattle.gix_odb.specs.declared.error.Feature.{Feature}
use Rattle.gix_odb.specs.declared.error.Feature.TheVariants.{IndexVersion, LargeObject, NotUtf8}

-- The text that says how a file is damaged.
abbrev pub damage_text : Damage → List ℕ
damage_text CutOff = codes "file is too short for its tables"
damage_text TooLong = codes "file is longer than its tables can be"
damage_text OtherPack = codes "pack does not match its index"
damage_text Fanout = codes "fanout table falls"
damage_text Header = codes "no object begins here"
damage_text Stream = codes "zlib stream is malformed, cut off or of another size"
damage_text Delta = codes "delta is malformed or does not fit its base"
damage_text Base = codes "base of a delta is not in the pack"
damage_text Circle = codes "chain of deltas leads in a circle"

-- The text that names what is not supported.
abbrev pub feature_text : Feature → List ℕ
feature_text IndexVersion = codes "index of another version than 2"
feature_text LargeObject = codes "object is larger than the limit"
feature_text NotUtf8 = codes "path is not UTF-8"

-- The name of a pack as text: its bytes if they are UTF-8, otherwise with U+FFFD.
abbrev pub pack_text : PackName → List ℕ
pack_text name = encode_utf8_all (lossy_chars (take name.len name.bytes))

-- The text that names a file in an `objects` folder.
abbrev pub file_kind_text : FileKind → List ℕ
file_kind_text Objects = codes "the objects folder"
file_kind_text Alternates = codes "'info/alternates'"
file_kind_text Packs = codes "the folder 'pack'"
file_kind_text (Index name) = codes "'pack/" ++ pack_text name ++ codes ".idx'"
file_kind_text (Pack name) = codes "'pack/" ++ pack_text name ++ codes ".pack'"
file_kind_text (Loose id) = codes "loose object " ++ id_text id

-- The text that names a file, and the alternate in which it is.
abbrev pub file_name_text : FileName → List ℕ
file_name_text name =
    cond (name.folder == 0) (file_kind_text name.kind) (file_kind_text name.kind ++ codes " of alternate " ++ decimal name.folder)

-- The text that an error prints. Of `Failed` nothing is said, since the kinds of system errors have no
-- texts in the toolchain's contracts.
abbrev pub error_text : Error → Option (List ℕ)
error_text (Missing id) = Some (codes "object " ++ id_text id ++ codes " is missing")
error_text (Altered id other) = Some (codes "altered: the bytes of object " ++ id_text id ++ codes " have another id")
error_text (NotACommit id kind) = Some (codes "not a commit: object " ++ id_text id ++ codes " is a " ++ kind_name kind)
error_text (Malformed id error) = Some (codes "malformed commit: " ++ id_text id ++ codes ": " ++ commit_error_text error)
error_text (NotATag id kind) = Some (codes "not a tag: object " ++ id_text id ++ codes " is a " ++ kind_name kind)
error_text (MalformedTag id error) = Some (codes "malformed tag: " ++ id_text id ++ codes ": " ++ tag_error_text error)
error_text (Damaged file at damage) = Some (codes "damaged: " ++ file_name_text file ++ codes " at byte " ++ decimal at ++ codes ": " ++ damage_text damage)
error_text (Unsupported file feature) = Some (codes "unsupported: " ++ file_name_text file ++ codes ": " ++ feature_text feature)
error_text (Failed file kind) = None
error_text OutOfMemory = Some (codes "out of memory")
