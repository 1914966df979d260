use Rattle.std.proofs.Common.{◌∙◌, ap, map}
use Rattle.gix_c_core.specs.Answers.{bytes_in}
use Rattle.gix_c_core.specs.Behind.{commits_in}
use Rattle.gix_c_core.specs.Noted.{Remembers}
use Rattle.gix_c_core.proofs.Lacking.{all-missing}
use Rattle.gix_c.proofs.listed.gix_history_missing_all.Goals as goal

pub returns-clause-list : goal.returns-clause-list
returns-clause-list c = λ noted.
    let put = c.in-Ok-place_of.ensures in
    let v = c.get_mut-history.result.now in
    let left = c.sift.new.history.named.items in
    let before : Remembers (commits_in v) v.named.items = rw c.get_mut-history.ensures.value noted in
    record {
      list = put.0;
      there = put.1;
      all = left;
      lists = rw c.get_mut-history.ensures.value at (all-missing (commits_in v) v.named.items left c.in-Ok.ensures.sifted before);
      holds = put.2 ∙ ap (map bytes_in) c.deref.ensures.value;
    }
