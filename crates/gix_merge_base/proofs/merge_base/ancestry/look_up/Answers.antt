use Rattle.std.proofs.Common.{sym, ap, ◌∙◌, inl}
use Rattle.gix_revwalk.specs.Faults.{count_after}
use Rattle.gix_revwalk.proofs.Growth.{more-taken}
use Rattle.gix_merge_base.proofs.QueueKeys.{kept-held, kept-grown}
use Rattle.gix_merge_base.proofs.merge_base.ancestry.look_up.Goals as goal

pub returns-in-Ok-clause-has : goal.returns-in-Ok-clause-has
returns-in-Ok-clause-has g c = c.in-Ok.ensures.has

pub returns-in-Ok-clause-number : goal.returns-in-Ok-clause-number
returns-in-Ok-clause-number g c = c.in-Ok.ensures.number

pub returns-in-Ok-clause-grows : goal.returns-in-Ok-clause-grows
returns-in-Ok-clause-grows g c = c.in-Ok.ensures.grows

pub returns-in-Ok-clause-marks : goal.returns-in-Ok-clause-marks
returns-in-Ok-clause-marks g c = c.in-Ok.ensures.marks

pub returns-in-Ok-clause-holds : goal.returns-in-Ok-clause-holds
returns-in-Ok-clause-holds g c = more-taken (g.S.Find.history c.args.graph.now.source) c.args.graph.now c.take.new.graph c.args.id _ c.in-Ok.ensures.taken

pub returns-in-Ok-clause-after : goal.returns-in-Ok-clause-after
returns-in-Ok-clause-after g c = record {
  graph = record { same_history = c.in-Ok.ensures.history; count = c.in-Ok.ensures.count; held = kept-grown c.args.graph.now c.take.new.graph c.in-Ok.ensures.grows };
  cause = tt;
}

pub returns-in-Err-clause-holds : goal.returns-in-Err-clause-holds
returns-in-Err-clause-holds g c q k = inl (kept-held c.take.new.graph c.args.graph.now (sym c.in-Err.ensures.refused.0) q k)

pub returns-in-Err-clause-after : goal.returns-in-Err-clause-after
returns-in-Err-clause-after g c = record {
  graph = record {
    same_history = c.in-Err.ensures.history;
    count = c.in-Err.ensures.count ∙ ap (λ b. count_after b (g.S.Find.fault_count c.args.graph.now.source)) (sym c.commit_refused.ensures.same);
    held = kept-held c.args.graph.now c.take.new.graph c.in-Err.ensures.refused.0;
  };
  cause = c.commit_refused.ensures.cause;
}
