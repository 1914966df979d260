use Rattle.std.proofs.Common.{rules, w64, refl}
use Rattle.std.specs.Int.RustNames.{FitsSigned as SFits}
use Rattle.std.proofs.lemmas.Int.{to_z-of_z}
use Rattle.gix_merge_base.proofs.merge_base.gen_then_time.GenThenTimeFromRefCommitFlags.from.Goals as goal

pub returns : goal.returns
returns g c =
    let fits : SFits w64 c.commit_time.result = search rules in
    rw (c.unwrap_or.ensures, c.generation.ensures, to_z-of_z w64 _ fits, c.commit_time.ensures) refl
