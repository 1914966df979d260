-- What an error prints.
use Rattle.std.specs.Prelude.{ℕ, List, codes}
use Rattle.gix_merge_base.specs.declared.merge_base.error.Error.{Error}
use Rattle.gix_merge_base.specs.declared.merge_base.error.Error.TheVariants.{Source, OutOfMemory}

-- The text that an error of this crate prints.
abbrev pub merge_base_error_text : Error → List ℕ
merge_base_error_text (Source simple) = simple.0.now
merge_base_error_text OutOfMemory = codes "out of memory"
