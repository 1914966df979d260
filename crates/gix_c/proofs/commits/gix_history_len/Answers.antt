use Rattle.std.proofs.Common.{ap, sym, ◌∙◌}
use Rattle.gix_resolve.proofs.Beginnings.{rising_once}
use Rattle.gix_revwalk.specs.History.{is_one_of}
use Rattle.gix_c_core.specs.declared.history.History.{History}
use Rattle.gix_c.proofs.commits.gix_history_len.Goals as goal

pub returns-clause-size : goal.returns-clause-size
returns-clause-size c = λ known.
    let keys = c.get_mut.result.now.table.ids.keys in (
      keys,
      (
        rising_once keys c.len.ensures.ordered,
        λ q. let is = ap (λ (v : History). is_one_of v.table.ids.keys q) c.get_mut.ensures.value ∙ known q in (λ m. sym is ∙ m, λ m. is ∙ m),
      ),
      sym c.len.ensures.len,
    )
