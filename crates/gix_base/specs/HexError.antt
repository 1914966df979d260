-- The texts of errors.
use Rattle.std.specs.Prelude.{ℕ, List, codes}
use Rattle.gix_base.specs.declared.hash.HexError.{HexError}
use Rattle.gix_base.specs.declared.hash.HexError.TheVariants.{WrongLength, NotHex, TooShort, TooLong}

-- What each error prints.
abbrev pub error_text : HexError → List ℕ
error_text WrongLength = codes "WrongLength"
error_text NotHex = codes "NotHex"
error_text TooShort = codes "TooShort"
error_text TooLong = codes "TooLong"
