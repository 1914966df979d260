-- What a queue has of a commit as well as its key.
use Rattle.gix_describe.specs.declared.describe.key.Key.{Key}
use Rattle.gix_describe.specs.declared.describe.met.Met.{Met}
use Rattle.gix_describe.specs.declared.describe.queue.Place.{Place}

-- The commit of an entry: its id is that of the key.
abbrev pub entry_of : Key × Place → Key × Met
entry_of p = (p.0, record { id = p.0.id; number = p.1.number; spot = p.1.spot })
