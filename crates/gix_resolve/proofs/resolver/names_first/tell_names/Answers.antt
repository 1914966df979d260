use Rattle.std.proofs.Common.{refl, sym, ◌∙◌, Ok, Err}
use Rattle.gix_resolve.specs.RevParse.{after_names, commit_for, names_first}
use Rattle.gix_resolve.specs.RevStep.{resolver_of}
use Rattle.gix_resolve.specs.ResolverStep.{known_of}
use Rattle.gix_resolve.proofs.ByNames.{fails_within, run_within}
use Rattle.gix_resolve.proofs.Frugal.{never_wanting}
use Rattle.gix_resolve.proofs.Resolves.{resolved_so, fails_so, fails_stays, fails_counts, ends_so, ends_counts, run_stays, has_ended, fails_walked, ends_walked}
use Rattle.gix_resolve.proofs.resolver.names_first.tell_names.Goals as goal

pub returns-in-Err-clause-fault : goal.returns-in-Err-clause-fault
returns-in-Err-clause-fault g c =
    fails_so after_names commit_for g.I.Ids.ids g.S.Find.history g.S.Find.fault_count c.args.text.now c.args.now _ _ c.in-Err.error c.requires (fails_within g.I.Ids.ids g.S.Find.history g.S.Find.fault_count _ _ _ c.in-Err.error c.in-Err.ensures.run)

pub returns-in-Err-clause-resolved : goal.returns-in-Err-clause-resolved
returns-in-Err-clause-resolved g c =
    resolved_so (names_first (known_of g.I.Ids.ids (resolver_of c.args.names.now)) (g.S.Find.history (resolver_of c.args.names.now).graph.now.source)) c.args.text.now c.args.now (Err c.in-Err.error) (fails_so after_names commit_for g.I.Ids.ids g.S.Find.history g.S.Find.fault_count c.args.text.now c.args.now _ _ c.in-Err.error c.requires (fails_within g.I.Ids.ids g.S.Find.history g.S.Find.fault_count _ _ _ c.in-Err.error c.in-Err.ensures.run))

pub returns-in-Err-clause-memory : goal.returns-in-Err-clause-memory
returns-in-Err-clause-memory g c =
    never_wanting (names_first (known_of g.I.Ids.ids (resolver_of c.args.names.now)) (g.S.Find.history (resolver_of c.args.names.now).graph.now.source)) c.args.text.now c.args.now (Err c.in-Err.error)
    (fails_so after_names commit_for g.I.Ids.ids g.S.Find.history g.S.Find.fault_count c.args.text.now c.args.now _ _ c.in-Err.error c.requires (fails_within g.I.Ids.ids g.S.Find.history g.S.Find.fault_count _ _ _ c.in-Err.error c.in-Err.ensures.run))

pub returns-in-Err-clause-count : goal.returns-in-Err-clause-count
returns-in-Err-clause-count g c =
    fails_counts after_names commit_for g.I.Ids.ids g.S.Find.history g.S.Find.fault_count c.args.text.now c.args.now _ _ c.in-Err.error (fails_within g.I.Ids.ids g.S.Find.history g.S.Find.fault_count _ _ _ c.in-Err.error c.in-Err.ensures.run)

pub returns-in-Err-clause-history : goal.returns-in-Err-clause-history
returns-in-Err-clause-history g c =
    (fails_stays after_names commit_for g.I.Ids.ids g.S.Find.history g.S.Find.fault_count c.args.text.now c.args.now _ _ c.in-Err.error (fails_within g.I.Ids.ids g.S.Find.history g.S.Find.fault_count _ _ _ c.in-Err.error c.in-Err.ensures.run)).same_history

pub returns-in-Err-clause-held : goal.returns-in-Err-clause-held
returns-in-Err-clause-held g c =
    (fails_stays after_names commit_for g.I.Ids.ids g.S.Find.history g.S.Find.fault_count c.args.text.now c.args.now _ _ c.in-Err.error (fails_within g.I.Ids.ids g.S.Find.history g.S.Find.fault_count _ _ _ c.in-Err.error c.in-Err.ensures.run)).held

pub returns-in-Err-clause-same_reference : goal.returns-in-Err-clause-same_reference
returns-in-Err-clause-same_reference g c =
    (fails_stays after_names commit_for g.I.Ids.ids g.S.Find.history g.S.Find.fault_count c.args.text.now c.args.now _ _ c.in-Err.error (fails_within g.I.Ids.ids g.S.Find.history g.S.Find.fault_count _ _ _ c.in-Err.error c.in-Err.ensures.run)).same_reference

pub unreachable-requires : goal.unreachable-requires
unreachable-requires g c =
    has_ended after_names commit_for g.I.Ids.ids g.S.Find.history g.S.Find.fault_count (λ t h s. refl) c.done_is_last.ensures c.args.text.now c.args.now _ _ (run_within g.I.Ids.ids g.S.Find.history g.S.Find.fault_count c.in_default.ensures.run) (sym c.spec.ensures ∙ c.in-None.is)

pub returns-clause-fault : goal.returns-clause-fault
returns-clause-fault g c =
    ends_so after_names commit_for g.I.Ids.ids g.S.Find.history g.S.Find.fault_count c.args.text.now c.args.now _ _ c.in-Some.spec c.requires (run_within g.I.Ids.ids g.S.Find.history g.S.Find.fault_count c.in_default.ensures.run) (sym c.spec.ensures ∙ c.in-Some.is)

pub returns-clause-resolved : goal.returns-clause-resolved
returns-clause-resolved g c =
    resolved_so (names_first (known_of g.I.Ids.ids (resolver_of c.args.names.now)) (g.S.Find.history (resolver_of c.args.names.now).graph.now.source)) c.args.text.now c.args.now (Ok c.in-Some.spec) (ends_so after_names commit_for g.I.Ids.ids g.S.Find.history g.S.Find.fault_count c.args.text.now c.args.now _ _ c.in-Some.spec c.requires (run_within g.I.Ids.ids g.S.Find.history g.S.Find.fault_count c.in_default.ensures.run) (sym c.spec.ensures ∙ c.in-Some.is))

pub returns-clause-count : goal.returns-clause-count
returns-clause-count g c = ends_counts after_names commit_for g.I.Ids.ids g.S.Find.history g.S.Find.fault_count c.args.text.now c.args.now _ _ (run_within g.I.Ids.ids g.S.Find.history g.S.Find.fault_count c.in_default.ensures.run)

pub returns-clause-history : goal.returns-clause-history
returns-clause-history g c = (run_stays after_names commit_for g.I.Ids.ids g.S.Find.history g.S.Find.fault_count (run_within g.I.Ids.ids g.S.Find.history g.S.Find.fault_count c.in_default.ensures.run)).same_history

pub returns-clause-held : goal.returns-clause-held
returns-clause-held g c = (run_stays after_names commit_for g.I.Ids.ids g.S.Find.history g.S.Find.fault_count (run_within g.I.Ids.ids g.S.Find.history g.S.Find.fault_count c.in_default.ensures.run)).held

pub returns-clause-same_reference : goal.returns-clause-same_reference
returns-clause-same_reference g c = (run_stays after_names commit_for g.I.Ids.ids g.S.Find.history g.S.Find.fault_count (run_within g.I.Ids.ids g.S.Find.history g.S.Find.fault_count c.in_default.ensures.run)).same_reference

pub returns-in-Err-clause-walked : goal.returns-in-Err-clause-walked
returns-in-Err-clause-walked g c =
    fails_walked after_names commit_for g.I.Ids.ids g.S.Find.history g.S.Find.fault_count c.args.text.now c.args.now _ _ c.in-Err.error c.requires (fails_within g.I.Ids.ids g.S.Find.history g.S.Find.fault_count _ _ _ c.in-Err.error c.in-Err.ensures.run)

pub returns-clause-walked : goal.returns-clause-walked
returns-clause-walked g c =
    ends_walked after_names commit_for g.I.Ids.ids g.S.Find.history g.S.Find.fault_count c.args.text.now c.args.now _ _ c.in-Some.spec c.requires (run_within g.I.Ids.ids g.S.Find.history g.S.Find.fault_count c.in_default.ensures.run) (sym c.spec.ensures ∙ c.in-Some.is)
