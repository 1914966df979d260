use Rattle.std.proofs.Common.{refl}
use Rattle.gix_pack.proofs.Places.{place-in-part}
use Rattle.gix_pack.proofs.part.search.Goals as goal

pub returns : goal.returns
returns c = place-in-part c.args.ids.now c.args.id _ refl refl c.narrow.result c.narrow.ensures
