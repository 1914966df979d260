use Rattle.std.proofs.Common.{inl, Err, refl, ap, ◌∙◌}
use Rattle.gix_revision.specs.Call.{prefix}
use Rattle.gix_revision.specs.Faults.{count_after}
use Rattle.gix_resolve.specs.Known.{known_by}
use Rattle.gix_resolve.specs.RevParse.{names_first}
use Rattle.gix_resolve.specs.declared.refusal.Refusal.TheVariants.{NameFirst}
use Rattle.gix_resolve.specs.declared.refusal.Trouble.TheVariants.{Refused}
use Rattle.gix_resolve.proofs.Answered.{not_so, step_by, tells_of, unanswered_of}
use Rattle.gix_resolve.proofs.resolver.Resolver.pass_prefix.Goals as goal

pub returns : goal.returns
returns g c = λ digits hint.
    let known = known_by g.I.Ids.ids c.args.self.now.table.now in
    let history = g.S.Find.history c.args.self.now.graph.now.source in
    let state = c.args.self.now.state in
    let answered = c.answer.ensures in
    record {
      step = step_by (names_first known history) state (prefix digits hint) (Err (Refused NameFirst)) _ _ refl (λ yes. not_so yes) answered;
      table = refl;
      same_reference = refl;
      same_history = refl;
      count = ap (λ b. count_after b (g.S.Find.fault_count c.args.self.now.graph.now.source)) (tells_of state (Err (Refused NameFirst)) _ _ answered);
      held = λ q there. there;
      taken = λ q there. inl there;
      there = λ is asks. not_so asks;
      lacks = λ yes. not_so (unanswered_of state (Err (Refused NameFirst)) _ _ answered ∙ yes);
    }
