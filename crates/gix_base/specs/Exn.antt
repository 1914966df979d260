-- What a refusal says.
use Rattle.std.specs.Prelude.{ℕ, List, Bool, Option}
use Rattle.std.specs.Cow.{cow_str_bytes}
use Rattle.bstr.specs.declared.bstring.BString.{BString}
use Rattle.gix_base.specs.declared.error.Exn.{Exn, out-Exn}

-- The bytes of a refusal's message.
abbrev pub message_of : Exn → List ℕ
message_of exn = cow_str_bytes (out-Exn exn).message

-- The text that was refused, if there is one.
abbrev pub input_of : Exn → Option BString
input_of exn = (out-Exn exn).input

-- The refusals that led to a refusal.
abbrev pub causes_of : Exn → List Exn
causes_of exn = (out-Exn exn).causes.items

-- Whether an allocation failed.
abbrev pub is_out_of_memory : Exn → Bool
is_out_of_memory exn = (out-Exn exn).out_of_memory
