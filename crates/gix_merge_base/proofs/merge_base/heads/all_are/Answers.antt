use Rattle.std.proofs.Common.{rules, tests}
use Rattle.std.proofs.lemmas.Iterator.{YieldsList-from_slice}
use Rattle.std.proofs.lemmas.Iterator.Search.{all_from_yields_List}
use Rattle.gix_revwalk.specs.History.{same_id}
use Rattle.gix_merge_base.proofs.merge_base.heads.all_are.Goals as goal

pub returns : goal.returns
returns c = all_from_yields_List (same_id c.args.id) _ _ _ c.all.ensures.ran (YieldsList-from_slice c.args.ids.now cc) (λ x b q k. search (rules, tests))
