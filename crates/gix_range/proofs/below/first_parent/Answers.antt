use Rattle.std.proofs.Common.{sym, ap, subst, ◌∙◌, IsTrue}
use Rattle.std.specs.Prelude.{IfSome}
use Rattle.std.specs.List.{slice_get}
use Rattle.gix_revwalk.specs.History.{entry_at, is_one_of, parents_in}
use Rattle.gix_range.proofs.Lines.{first_is_one}
use Rattle.gix_range.proofs.below.first_parent.Goals as goal

pub returns-in-Some : goal.returns-in-Some
returns-in-Some g c =
    let parents = c.parents.result.now in
    let is = c.parents.ensures ∙ sym (ap parents_in c.in-Some.ensures.agrees) in
    subst (λ r. IfSome r (λ p. IsTrue (is_one_of (parents_in (entry_at (g.S.Find.history c.args.graph.now.source) c.args.id)) p))) (sym (c.copied.ensures ∙ c.first.ensures.value))
    (subst (λ xs. IfSome (slice_get parents 0) (λ p. IsTrue (is_one_of xs p))) is (first_is_one parents))
