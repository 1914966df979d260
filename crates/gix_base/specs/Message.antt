-- What the faults of `describe` print.
use Rattle.std.specs.Prelude.{ℕ, List, ◌++◌, codes}
use Rattle.gix_base.specs.Hash.{id_text}
use Rattle.gix_base.specs.declared.error.message.Message.{Message}
use Rattle.gix_base.specs.declared.error.message.Message.TheVariants.{ParentsOf, MissingStart, CounterFull, OutOfMemory}

-- The text that each error of `describe` prints.
abbrev pub message_text : Message → List ℕ
message_text (ParentsOf id) = codes "could not insert parents of commit " ++ id_text id ++ codes " into graph"
message_text (MissingStart id) = codes "commit " ++ id_text id ++ codes " is not in the source"
message_text CounterFull = codes "a counter is full"
message_text OutOfMemory = codes "out of memory"
