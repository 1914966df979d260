use Rattle.std.proofs.Common.{rules, ℕ, ◌<◌, slice_index, refl}
use Rattle.std.proofs.lemmas.Nat.{le_bytes_8}
use Rattle.gix_revwalk.specs.Words.{eight_from}
use Rattle.gix_revwalk.proofs.Ids.{eight-below}
use Rattle.gix_revwalk.proofs.past.word.Goals as goal

pub returns-clause-bytes : goal.returns-clause-bytes
returns-clause-bytes c =
    let each : (k : ℕ) → slice_index c.args.id.now.0 k < 256 = search rules in
    le_bytes_8 (eight_from c.args.id.now.0 c.args.at) c.from_le_bytes.result refl (eight-below c.args.id.now.0 c.args.at each) c.from_le_bytes.ensures
