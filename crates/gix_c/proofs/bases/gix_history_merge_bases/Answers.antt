use Rattle.std.proofs.Common.{List, subst}
use Rattle.gix_base.specs.declared.hash.ObjectId.{ObjectId}
use Rattle.gix_questions.specs.BaseQuestions.{MeansBases}
use Rattle.gix_merge_base.specs.Bases.{ids_of}
use Rattle.gix_c_core.specs.Answers.{id_of}
use Rattle.gix_c_core.specs.Partial.{whole_in}
use Rattle.gix_c_core.specs.declared.history.History.{History}
use Rattle.gix_c.proofs.bases.gix_history_merge_bases.Goals as goal

pub returns-in-Some-clause-bases : goal.returns-in-Some-clause-bases
returns-in-Some-clause-bases g c = λ acyclic gens.
    let Holds = λ (v : History) (os : List ObjectId). MeansBases (whole_in v g.beyond) (id_of c.args.first.now) os c.in-Ok-answer.found in
    let here = subst (λ (v : History). Holds v c.deref.result.now) c.get_mut.ensures.value c.in-Ok-answer.ensures.means in
    let ids = subst (λ (os : List ObjectId). Holds c.args.history.now.value os) c.deref.ensures.value here in
    let means = subst (λ (os : List ObjectId). Holds c.args.history.now.value os) c.in-Ok.ensures ids in
    record {
      ids = ids_of c.in-Ok-answer.found;
      bases = means.bases acyclic gens;
      once = means.once;
      order = means.order;
      written = c.in-Ok-write_found.ensures.written;
    }
