use Rattle.std.proofs.Common.{refl, Some, None, ◌≡◌, ◌≤◌, ◌<◌, ◌-◌, ◌+◌, ◌∙◌, ℕ, ap, length, arith}
use Rattle.gix_revwalk.specs.History.{History}
use Rattle.gix_revwalk.specs.Followed.{followed}
use Rattle.gix_describe.specs.Outcomes.{names_of}
use Rattle.gix_describe.proofs.WalkSteps.{bounded}
use Rattle.gix_describe.proofs.Asked.{asks_on, err_came, refusal_came}
use Rattle.gix_describe.proofs.WalkEnds.{rests_ended, takes_of}
use Rattle.gix_describe.proofs.describe.walk.Walk.run.Goals as goal

fewer : (n h k i j : ℕ) → h ≡ n → k ≡ n → j ≡ i + 1 → j ≤ n → k - j < h - i
fewer n h k i j a b c d = omega arith

pub loop-next-smaller : goal.loop-next-smaller
loop-next-smaller g c =
    let size = λ (x : History). length (followed c.args.search.first_parent x) in
    let hist : g.S.Find.history c.admit.new.graph.source ≡ g.S.Find.history c.args.graph.now.source = ap g.S.Find.history c.admit.ensures.source ∙ c.loop-next.invariant.asked.same_history in
    let rests = rw (hist, c.if-settled.false) at c.in_ok-settled.ensures.passed in
    let few = bounded _ _ _ rests.popped rests.at.walk rests.at.has in
    let seen : c.pass.new.self.seen ≡ length rests.popped = rests.at.seen in
    let more : c.pass.new.self.seen ≡ c.loop-next.self.seen + 1 = c.in_ok-settled.ensures.seen ∙ ap (λ n. n + 1) (c.admit.ensures.seen ∙ c.next.ensures.seen) in
    fewer _ _ _ _ _ (ap size c.loop-next.invariant.asked.same_history) (ap size (c.pass.ensures.asked.same_history ∙ hist)) more (omega (arith, few))

pub admit-requires-clause-taken : goal.admit-requires-clause-taken
admit-requires-clause-taken g c =
    let h = followed c.args.search.first_parent (g.S.Find.history c.args.graph.now.source) in
    let rests = c.loop-next.invariant.rests in
    rw c.loop-next.invariant.asked.same_history (takes_of c.args.search.tie h c.args.search.start (names_of c.args.names.now.entries) c.args.search.cap c.in-Some.next.0 c.in-Some.next.1 c.loop-next.self c.next.new.self c.loop-next.graph rests
    (c.in-Some.ensures.next (c.args.search.tie, None) h c.args.search.start rests.popped) c.in-Some.ensures.taken (ap (λ v. v.items) c.next.ensures.candidates) (ap (λ v. v.items) c.next.ensures.counts) (ap (λ v. v.items) c.next.ensures.lacking) c.next.ensures.seen)

pub admit-requires-clause-sieve : goal.admit-requires-clause-sieve
admit-requires-clause-sieve g c = c.requires.sieve

pub pass-requires-clause-admitted : goal.pass-requires-clause-admitted
pass-requires-clause-admitted g c = rw (c.if-not-admitted.false, ← c.admit.ensures.source) at c.in_ok-admitted.ensures.admitted

pub loop-next-preserved : goal.loop-next-preserved
loop-next-preserved g c =
    let same = c.loop-next.invariant.asked.same_history in
    record {
      rests = rw (c.admit.ensures.source, same, c.if-settled.false) at c.in_ok-settled.ensures.passed;
      asked = asks_on _ _ _ _ _ _ _ None c.loop-next.invariant.asked (rw (c.admit.ensures.source, same) at c.in_ok-settled.ensures.asked);
    }

pub returns-in_err-settled-clause-asked : goal.returns-in_err-settled-clause-asked
returns-in_err-settled-clause-asked g c =
    let same = c.loop-next.invariant.asked.same_history in
    rw (refusal_came c.from_residual-in_err-settled.result _ c.from_residual-in_err-settled.ensures.1) (asks_on _ _ _ _ _ _ _ (Some c.in_err-settled.field-0.0) c.loop-next.invariant.asked (rw (c.admit.ensures.source, same) at c.in_err-settled.ensures.asked))

pub returns-clause-ended : goal.returns-clause-ended
returns-clause-ended g c =
    rests_ended c.args.search.tie (followed c.args.search.first_parent (g.S.Find.history c.args.graph.now.source)) c.args.search.start (names_of c.args.names.now.entries) c.args.search.cap c.loop-next.self c.next.new.self c.loop-next.graph c.loop-next.invariant.rests
    (c.in_default.ensures.none refl) (ap (λ v. v.items) c.next.ensures.candidates) (ap (λ v. v.items) c.next.ensures.counts) c.next.ensures.seen

pub returns-in_err-settled-clause-fault : goal.returns-in_err-settled-clause-fault
returns-in_err-settled-clause-fault g c =
    let fault = rw (c.admit.ensures.source, c.loop-next.invariant.asked.same_history) at c.in_err-settled.ensures.fault in
    rw (err_came c.from_residual-in_err-settled.result _ c.from_residual-in_err-settled.ensures.1) fault
