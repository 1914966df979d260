-- The texts of errors.
use Rattle.std.specs.Prelude.{ℕ, List, codes}
use Rattle.gix_date.specs.declared.date.error.DateError.{DateError}
use Rattle.gix_date.specs.declared.date.error.DateError.TheVariants.{NotADate, OutOfRange, OutOfMemory}

-- What each error prints.
abbrev pub date_error_text : DateError → List ℕ
date_error_text NotADate = codes "NotADate"
date_error_text OutOfRange = codes "OutOfRange"
date_error_text OutOfMemory = codes "out of memory"
