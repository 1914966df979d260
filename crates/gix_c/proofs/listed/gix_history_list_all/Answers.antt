use Rattle.std.proofs.Common.{◌∙◌, ap, sym, subst, map}
use Rattle.gix_resolve.specs.ListMeaning.{ListsMeant}
use Rattle.gix_c_core.specs.Answers.{bytes_in}
use Rattle.gix_c_core.specs.Partial.{whole_in}
use Rattle.gix_c_core.specs.declared.history.History.{History}
use Rattle.gix_c.proofs.listed.gix_history_list_all.Goals as goal

pub returns-clause-list : goal.returns-clause-list
returns-clause-list g c =
    let put = c.in-Ok-place_of.ensures in
    let spec = c.in-Some.spec in
    let ids = c.in-Ok.ids.items in
    record {
      list = put.0;
      there = put.1;
      spec = spec;
      stands = sym c.in-Some.ensures;
      all = ids;
      lists = subst (λ (v : History). ListsMeant (whole_in v g.beyond) spec ids) c.get_mut.ensures.value c.in-Ok.ensures.means;
      holds = put.2 ∙ ap (map bytes_in) c.deref.ensures.value;
    }
