use Rattle.std.proofs.Common.{Some, None, inl, inr, ◌≡◌, length, refl, arith}
use Rattle.std.proofs.lemmas.List.{get_or_read}
use Rattle.gix_revwalk.specs.Followed.{followed}
use Rattle.gix_describe.specs.Outcomes.{names_of}
use Rattle.gix_describe.proofs.WalkEnds.{found_none, found_ended, found_full, full_of, each_counted, full_completes, full_then}
use Rattle.gix_describe.proofs.Tied.{ended_tied, full_tied, ended_counts, full_counts, ended_holds, complete_holds}
use Rattle.gix_describe.proofs.Asked.{asks_on, err_came, refusal_came}
use Rattle.gix_describe.proofs.describe.walk.found_by.Goals as goal

pub returns-in_default-clause-found : goal.returns-in_default-clause-found
returns-in_default-clause-found g c =
    let ended = c.in_ok-full.ensures.ended in
    found_none c.args.search.tie (followed c.args.search.first_parent (g.S.Find.history c.args.graph.now.source)) c.args.search.start (names_of c.args.names.now.entries) c.args.search.cap c.run.new.self c.run.new.graph c.in_ok-full.full ended (c.in_default.ensures.none refl) c.requires.some

pub returns-then-not-full-clause-found : goal.returns-then-not-full-clause-found
returns-then-not-full-clause-found g c =
    let ended = c.in_ok-full.ensures.ended in
    let is = c.in-Some.ensures.chosen in
    let h = followed c.args.search.first_parent (g.S.Find.history c.args.graph.now.source) in
    let each : length c.run.new.self.counts.items ≡ length c.run.new.self.candidates.items = each_counted c.args.search.tie h c.args.search.start (names_of c.args.names.now.entries) c.args.search.cap c.run.new.self c.run.new.graph c.in_ok-full.full ended in
    found_ended c.args.search.tie h c.args.search.start (names_of c.args.names.now.entries) c.args.search.cap c.run.new.self c.run.new.graph c.in_ok-full.full c.if-not-full.true ended
    c.in-Some.place is _ (get_or_read c.run.new.self.candidates.items _ _ is.0 c.index-id.ensures c.args.search.start) _ (get_or_read c.run.new.self.counts.items _ _ (omega (arith, is.0)) c.index-count.ensures 0)

pub complete-requires : goal.complete-requires
complete-requires g c =
    let is = c.in-Some.ensures.chosen in
    let h = followed c.args.search.first_parent (g.S.Find.history c.args.graph.now.source) in
    let full = full_of c.args.search.tie h c.args.search.start (names_of c.args.names.now.entries) c.args.search.cap c.run.new.self c.run.new.graph c.in_ok-full.full c.if-not-full.false c.in_ok-full.ensures.ended in
    let each : length c.run.new.self.counts.items ≡ length c.run.new.self.candidates.items = full.counted.each in
    let count = get_or_read c.run.new.self.counts.items _ _ (omega (arith, is.0)) c.index-count.ensures 0 in
    record { completes = ((full.popped, full.next), rw (c.in_ok-full.ensures.asked.same_history, count) (full_completes c.args.search.tie h c.args.search.start (names_of c.args.names.now.entries) c.args.search.cap c.run.new.self c.run.new.graph c.requires.cap full c.in-Some.place is.0)) }

pub returns-clause-found : goal.returns-clause-found
returns-clause-found g c =
    let is = c.in-Some.ensures.chosen in
    let run_hist : g.S.Find.history c.run.new.graph.source ≡ g.S.Find.history c.args.graph.now.source = c.in_ok-full.ensures.asked.same_history in
    let h = followed c.args.search.first_parent (g.S.Find.history c.args.graph.now.source) in
    let ended = c.in_ok-full.ensures.ended in
    let full = full_of c.args.search.tie h c.args.search.start (names_of c.args.names.now.entries) c.args.search.cap c.run.new.self c.run.new.graph c.in_ok-full.full c.if-not-full.false ended in
    let each : length c.run.new.self.counts.items ≡ length c.run.new.self.candidates.items = full.counted.each in
    let done = full_then c.args.search.tie h c.args.search.start (names_of c.args.names.now.entries) c.args.search.cap c.run.new.self c.run.new.graph c.requires.cap full c.in-Some.place is.0 _ c.in_ok-depth.depth c.complete.new.self.seen
    (get_or_read c.run.new.self.counts.items _ _ (omega (arith, is.0)) c.index-count.ensures 0) (rw run_hist at c.in_ok-depth.ensures.complete) in
    found_full c.args.search.tie h c.args.search.start (names_of c.args.names.now.entries) c.args.search.cap c.run.new.self c.run.new.graph full c.in-Some.place is.0 _ (get_or_read c.run.new.self.candidates.items _ _ is.0 c.index-id.ensures c.args.search.start)
    c.in_ok-depth.depth c.complete.new.self.seen _ done

pub returns-in_err-full-clause-asked : goal.returns-in_err-full-clause-asked
returns-in_err-full-clause-asked g c = rw (refusal_came c.from_residual.result _ c.from_residual.ensures.1) c.in_err-full.ensures.asked

pub returns-in_err-depth-clause-asked : goal.returns-in_err-depth-clause-asked
returns-in_err-depth-clause-asked g c =
    let complete = rw c.in_ok-full.ensures.asked.same_history at c.in_err-depth.ensures.asked in
    rw (refusal_came c.from_residual-in_err-depth.result _ c.from_residual-in_err-depth.ensures.1) (asks_on _ _ _ _ _ _ _ (Some c.in_err-depth.field-0.0) c.in_ok-full.ensures.asked complete)

pub returns-in_default-clause-asked : goal.returns-in_default-clause-asked
returns-in_default-clause-asked g c = c.in_ok-full.ensures.asked

pub returns-then-not-full-clause-asked : goal.returns-then-not-full-clause-asked
returns-then-not-full-clause-asked g c = c.in_ok-full.ensures.asked

pub returns-clause-asked : goal.returns-clause-asked
returns-clause-asked g c =
    let complete = rw c.in_ok-full.ensures.asked.same_history at c.in_ok-depth.ensures.asked in
    asks_on _ _ _ _ _ _ _ None c.in_ok-full.ensures.asked complete

pub returns-then-not-full-clause-tied : goal.returns-then-not-full-clause-tied
returns-then-not-full-clause-tied g c =
    let ended = c.in_ok-full.ensures.ended in
    let is = c.in-Some.ensures.chosen in
    let h = followed c.args.search.first_parent (g.S.Find.history c.args.graph.now.source) in
    let each : length c.run.new.self.counts.items ≡ length c.run.new.self.candidates.items = each_counted c.args.search.tie h c.args.search.start (names_of c.args.names.now.entries) c.args.search.cap c.run.new.self c.run.new.graph c.in_ok-full.full ended in
    ended_tied c.args.search.tie h c.args.search.start (names_of c.args.names.now.entries) c.args.search.cap c.run.new.self c.run.new.graph c.in_ok-full.full c.if-not-full.true ended
    c.in-Some.place is _ (get_or_read c.run.new.self.candidates.items _ _ is.0 c.index-id.ensures c.args.search.start) _ (get_or_read c.run.new.self.counts.items _ _ (omega (arith, is.0)) c.index-count.ensures 0)

pub returns-clause-tied : goal.returns-clause-tied
returns-clause-tied g c =
    let is = c.in-Some.ensures.chosen in
    let run_hist : g.S.Find.history c.run.new.graph.source ≡ g.S.Find.history c.args.graph.now.source = c.in_ok-full.ensures.asked.same_history in
    let h = followed c.args.search.first_parent (g.S.Find.history c.args.graph.now.source) in
    let ended = c.in_ok-full.ensures.ended in
    let full = full_of c.args.search.tie h c.args.search.start (names_of c.args.names.now.entries) c.args.search.cap c.run.new.self c.run.new.graph c.in_ok-full.full c.if-not-full.false ended in
    let each : length c.run.new.self.counts.items ≡ length c.run.new.self.candidates.items = full.counted.each in
    let done = full_then c.args.search.tie h c.args.search.start (names_of c.args.names.now.entries) c.args.search.cap c.run.new.self c.run.new.graph c.requires.cap full c.in-Some.place is.0 _ c.in_ok-depth.depth c.complete.new.self.seen
    (get_or_read c.run.new.self.counts.items _ _ (omega (arith, is.0)) c.index-count.ensures 0) (rw run_hist at c.in_ok-depth.ensures.complete) in
    full_tied c.args.search.tie h c.args.search.start (names_of c.args.names.now.entries) c.args.search.cap c.run.new.self c.run.new.graph full c.in-Some.place is _ (get_or_read c.run.new.self.candidates.items _ _ is.0 c.index-id.ensures c.args.search.start)
    c.in_ok-depth.depth c.complete.new.self.seen done

pub returns-in_default-clause-held : goal.returns-in_default-clause-held
returns-in_default-clause-held g c =
    let ended = c.in_ok-full.ensures.ended in
    ended_holds c.args.search.tie (followed c.args.search.first_parent (g.S.Find.history c.args.graph.now.source)) c.args.search.start (names_of c.args.names.now.entries) c.args.search.cap c.run.new.self c.run.new.graph c.in_ok-full.full (inr (c.in_default.ensures.none refl, c.requires.some)) ended

pub returns-then-not-full-clause-held : goal.returns-then-not-full-clause-held
returns-then-not-full-clause-held g c =
    let ended = c.in_ok-full.ensures.ended in
    ended_holds c.args.search.tie (followed c.args.search.first_parent (g.S.Find.history c.args.graph.now.source)) c.args.search.start (names_of c.args.names.now.entries) c.args.search.cap c.run.new.self c.run.new.graph c.in_ok-full.full (inl c.if-not-full.true) ended

pub returns-clause-held : goal.returns-clause-held
returns-clause-held g c =
    let is = c.in-Some.ensures.chosen in
    let run_hist : g.S.Find.history c.run.new.graph.source ≡ g.S.Find.history c.args.graph.now.source = c.in_ok-full.ensures.asked.same_history in
    let h = followed c.args.search.first_parent (g.S.Find.history c.args.graph.now.source) in
    let full = full_of c.args.search.tie h c.args.search.start (names_of c.args.names.now.entries) c.args.search.cap c.run.new.self c.run.new.graph c.in_ok-full.full c.if-not-full.false c.in_ok-full.ensures.ended in
    let each : length c.run.new.self.counts.items ≡ length c.run.new.self.candidates.items = full.counted.each in
    let done = full_then c.args.search.tie h c.args.search.start (names_of c.args.names.now.entries) c.args.search.cap c.run.new.self c.run.new.graph c.requires.cap full c.in-Some.place is.0 _ c.in_ok-depth.depth c.complete.new.self.seen
    (get_or_read c.run.new.self.counts.items _ _ (omega (arith, is.0)) c.index-count.ensures 0) (rw run_hist at c.in_ok-depth.ensures.complete) in
    complete_holds _ _ _ _ _ _ _ _ done

pub returns-then-not-full-clause-pops : goal.returns-then-not-full-clause-pops
returns-then-not-full-clause-pops g c =
    let ended = c.in_ok-full.ensures.ended in
    ended_counts c.args.search.tie (followed c.args.search.first_parent (g.S.Find.history c.args.graph.now.source)) c.args.search.start (names_of c.args.names.now.entries) c.args.search.cap c.run.new.self c.run.new.graph c.in_ok-full.full c.if-not-full.true ended
    c.in-Some.place c.in-Some.ensures.chosen _ c.from-then-not-full.ensures

pub returns-clause-pops : goal.returns-clause-pops
returns-clause-pops g c =
    let h = followed c.args.search.first_parent (g.S.Find.history c.args.graph.now.source) in
    let ended = c.in_ok-full.ensures.ended in
    let full = full_of c.args.search.tie h c.args.search.start (names_of c.args.names.now.entries) c.args.search.cap c.run.new.self c.run.new.graph c.in_ok-full.full c.if-not-full.false ended in
    full_counts c.args.search.tie h c.args.search.start (names_of c.args.names.now.entries) c.args.search.cap c.run.new.self c.run.new.graph full c.in-Some.place c.in-Some.ensures.chosen c.complete.new.self.seen _ c.one_more.ensures

pub returns-in_err-full-clause-fault : goal.returns-in_err-full-clause-fault
returns-in_err-full-clause-fault g c = rw (err_came c.from_residual.result _ c.from_residual.ensures.1) c.in_err-full.ensures.fault

pub returns-in_err-depth-clause-fault : goal.returns-in_err-depth-clause-fault
returns-in_err-depth-clause-fault g c =
    let run_hist : g.S.Find.history c.run.new.graph.source ≡ g.S.Find.history c.args.graph.now.source = c.in_ok-full.ensures.asked.same_history in
    let fault = rw run_hist at c.in_err-depth.ensures.fault in
    rw (err_came c.from_residual-in_err-depth.result _ c.from_residual-in_err-depth.ensures.1) fault
