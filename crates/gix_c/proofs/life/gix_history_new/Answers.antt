use Rattle.std.proofs.Common.{◌≡◌, ap, sym, subst, ◌∙◌, None}
use Rattle.gix_base.specs.declared.hash.ObjectId.{ObjectId}
use Rattle.gix_revwalk.specs.History.{entry_at}
use Rattle.gix_c_core.specs.Behind.{commits_in}
use Rattle.gix_c_core.specs.Noted.{Remembers}
use Rattle.gix_c_core.specs.declared.history.History.{History}
use Rattle.gix_c.proofs.life.gix_history_new.Goals as goal

pub returns : goal.returns
returns c =
    let put = c.in-Ok.ensures in (
      put.0,
      put.1,
      subst (λ (v : History). (id : ObjectId) → entry_at (commits_in v) id ≡ None) (sym put.2) c.new-history.ensures.empty,
      subst (λ (v : History). Remembers (commits_in v) v.named.items) (sym put.2) c.new-history.ensures.noted,
      ap (λ (v : History). v.table.names.entries) put.2 ∙ c.new-history.ensures.names,
      ap (λ (v : History). v.table.ids.keys) put.2 ∙ c.new-history.ensures.ids,
      ap (λ (v : History). v.extent) put.2 ∙ c.new-history.ensures.extent,
    )
