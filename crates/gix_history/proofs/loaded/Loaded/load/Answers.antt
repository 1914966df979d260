use Rattle.std.proofs.Common.{subst, List, arith}
use Rattle.std.proofs.lemmas.List.{take_all}
use Rattle.std.specs.List.{All}
use Rattle.gix_base.specs.declared.hash.ObjectId.{ObjectId}
use Rattle.gix_revwalk.specs.History.{Has}
use Rattle.gix_history.proofs.Settled.{all-there, keeps-on}
use Rattle.gix_history.proofs.loaded.Loaded.load.Goals as goal

pub loop-tip-preserved : goal.loop-tip-preserved
loop-tip-preserved g c =
    let inv = c.loop-tip.invariant in
    let kept = c.load_tip.ensures.kept in
    (keeps-on _ _ _ inv.0 kept, all-there _ _ kept c.args.tips.now c.loop-tip.tip-index _ (omega arith) inv.1 c.in_ok-load_tip.ensures.there)

pub returns-clause-there : goal.returns-clause-there
returns-clause-there g c =
    let P : List ObjectId → Type 0 = λ xs. All (Has c.loop-tip.self) xs in
    subst P (take_all c.loop-tip.tip-index c.args.tips.now (omega arith)) c.loop-tip.invariant.1
