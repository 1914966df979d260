use Rattle.std.proofs.Common.{ap, ◌∙◌, List}
use Rattle.std.specs.List.{filter}
use Rattle.gix_base.specs.declared.hash.ObjectId.{ObjectId}
use Rattle.gix_revwalk.specs.History.{is_one_of}
use Rattle.gix_c_core.specs.Behind.{commits_in, joined}
use Rattle.gix_c_core.specs.Missing.{is_lacked}
use Rattle.gix_c_core.proofs.Lacking.{sifted}
use Rattle.gix_c_core.proofs.missing.sift.Goals as goal

pub returns-clause-sifted : goal.returns-clause-sifted
returns-clause-sifted c =
    let h = commits_in c.args.history.now in
    let is = c.in_ok-found.ensures ∙ ap (λ j. filter (is_lacked (joined j)) c.deref.result.now) c.source.ensures ∙ ap (λ (l : List ObjectId). filter (is_lacked h) l) c.deref.ensures.value in
    sifted h c.args.history.now.named.items c.in_ok-found.found.items c.in_ok-history.field-0.items is
    (λ q. ap (λ (l : List ObjectId). is_one_of l q) c.in_ok-history.ensures.same ∙ c.in_ok-set.ensures q) c.in_ok-history.ensures.rising
