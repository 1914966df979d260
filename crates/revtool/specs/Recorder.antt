-- A delegate that refuses no call.
use Rattle.std.specs.Prelude.{⊤}
use Rattle.gix_revision.specs.Answer.{Answer}

-- An answer is not a refusal if the call was accepted, or if there was no memory for it.
abbrev pub IsNoRefusal : Answer → Type 0
IsNoRefusal Answer.accepted = ⊤
IsNoRefusal (Answer.refused e) = ⊥
IsNoRefusal Answer.no_memory = ⊤
