-- What the errors of the program are about.
use Rattle.gix_ref.specs.declared.error.Error.{Error}
use Rattle.gix_ref.specs.declared.error.Error.TheVariants.{Failed, NotUtf8, Damaged, Unexpected, Broken, TooDeep, OutOfMemory}

-- An error is about a file or memory, and not about what a reference says.
abbrev pub IsFileError : Error → Type 0
IsFileError (Broken name) = ⊥
IsFileError (TooDeep name) = ⊥
IsFileError (Failed name kind) = Unit {0}
IsFileError (NotUtf8 name) = Unit {0}
IsFileError (Damaged name) = Unit {0}
IsFileError (Unexpected name) = Unit {0}
IsFileError OutOfMemory = Unit {0}
