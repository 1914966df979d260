use Rattle.std.proofs.Common.{refl, Some, None, ◌≡◌, ◌≤◌, ◌<◌, ◌-◌, ◌+◌, ◌∙◌, ℕ, ap, length, arith}
use Rattle.gix_revwalk.specs.History.{History}
use Rattle.gix_revwalk.specs.Followed.{followed}
use Rattle.gix_describe.proofs.WalkSteps.{bounded}
use Rattle.gix_describe.proofs.Asked.{asks_nothing, asks_on, err_came, refusal_came}
use Rattle.gix_describe.proofs.WalkEnds.{taken_of, completes_ended}
use Rattle.gix_describe.proofs.describe.walk.Walk.complete.Goals as goal

fewer : (n h k i j : ℕ) → h ≡ n → k ≡ n → j ≡ i + 1 → j ≤ n → k - j < h - i
fewer n h k i j a b c d = omega arith

pub loop-met-init : goal.loop-met-init
loop-met-init g c =
    record {
      completes = λ cut has. has;
      candidates = refl;
      asked = asks_nothing _ _ _ _ _ refl;
    }

pub loop-met-smaller : goal.loop-met-smaller
loop-met-smaller g c =
    let size = λ (x : History). length (followed c.args.search.first_parent x) in
    let h = followed c.args.search.first_parent (g.S.Find.history c.args.graph.now.source) in
    let passed = rw (c.loop-met.invariant.asked.same_history, c.if-complete.false) at c.in_ok-counted.ensures.passed in
    let cut = c.requires.completes.0 in
    let e = c.loop-met.invariant.completes cut c.requires.completes.1 in
    let rests = passed cut (taken_of c.args.search.tie h c.args.search.start c.args.place c.loop-met.depth c.in-Some.met cut c.loop-met.self c.next.new.self c.loop-met.graph e (c.in-Some.ensures.next (c.args.search.tie, Some cut) h c.args.search.start e.popped) c.in-Some.ensures.taken (ap (λ v. v.items) c.next.ensures.candidates) (ap (λ v. v.items) c.next.ensures.lacking) c.next.ensures.seen) in
    let few = bounded _ _ _ rests.popped rests.at.walk rests.at.has in
    let seen : c.pass_for.new.self.seen ≡ length rests.popped = rests.at.seen in
    let more : c.pass_for.new.self.seen ≡ c.loop-met.self.seen + 1 = c.in_ok-counted.ensures.seen ∙ ap (λ n. n + 1) c.next.ensures.seen in
    fewer _ _ _ _ _ (ap size c.loop-met.invariant.asked.same_history) (ap size (c.pass_for.ensures.asked.same_history ∙ c.loop-met.invariant.asked.same_history)) more (omega (arith, few))

pub returns-in_err-counted-clause-asked : goal.returns-in_err-counted-clause-asked
returns-in_err-counted-clause-asked g c =
    let asked = rw c.loop-met.invariant.asked.same_history at c.in_err-counted.ensures.asked in
    rw (refusal_came c.from_residual.result _ c.from_residual.ensures.1) (asks_on _ _ _ _ _ _ _ (Some c.in_err-counted.field-0.0) c.loop-met.invariant.asked asked)

pub returns-then-complete-clause-asked : goal.returns-then-complete-clause-asked
returns-then-complete-clause-asked g c =
    let asked = rw c.loop-met.invariant.asked.same_history at c.in_ok-counted.ensures.asked in
    asks_on _ _ _ _ _ _ _ None c.loop-met.invariant.asked asked

pub pass_for-requires : goal.pass_for-requires
pass_for-requires g c =
    let h = followed c.args.search.first_parent (g.S.Find.history c.args.graph.now.source) in
    let cut = c.requires.completes.0 in
    let e = c.loop-met.invariant.completes cut c.requires.completes.1 in
    record { taken = (cut, rw c.loop-met.invariant.asked.same_history (taken_of c.args.search.tie h c.args.search.start c.args.place c.loop-met.depth c.in-Some.met cut c.loop-met.self c.next.new.self c.loop-met.graph e (c.in-Some.ensures.next (c.args.search.tie, Some cut) h c.args.search.start e.popped) c.in-Some.ensures.taken (ap (λ v. v.items) c.next.ensures.candidates) (ap (λ v. v.items) c.next.ensures.lacking) c.next.ensures.seen)) }

pub loop-met-preserved : goal.loop-met-preserved
loop-met-preserved g c =
    let h = followed c.args.search.first_parent (g.S.Find.history c.args.graph.now.source) in
    let passed = rw (c.loop-met.invariant.asked.same_history, c.if-complete.false) at c.in_ok-counted.ensures.passed in
    record {
      completes = λ cut has. let e = c.loop-met.invariant.completes cut has in passed cut (taken_of c.args.search.tie h c.args.search.start c.args.place c.loop-met.depth c.in-Some.met cut c.loop-met.self c.next.new.self c.loop-met.graph e (c.in-Some.ensures.next (c.args.search.tie, Some cut) h c.args.search.start e.popped) c.in-Some.ensures.taken (ap (λ v. v.items) c.next.ensures.candidates) (ap (λ v. v.items) c.next.ensures.lacking) c.next.ensures.seen);
      candidates = c.pass_for.ensures.candidates ∙ c.next.ensures.candidates ∙ c.loop-met.invariant.candidates;
      asked = asks_on _ _ _ _ _ _ _ None c.loop-met.invariant.asked (rw c.loop-met.invariant.asked.same_history at c.in_ok-counted.ensures.asked);
    }

pub returns-then-complete-clause-complete : goal.returns-then-complete-clause-complete
returns-then-complete-clause-complete g c = λ cut has.
    let h = followed c.args.search.first_parent (g.S.Find.history c.args.graph.now.source) in
    let passed = rw (c.loop-met.invariant.asked.same_history, c.if-complete.true) at c.in_ok-counted.ensures.passed in
    let e = c.loop-met.invariant.completes cut has in
    let done = passed cut (taken_of c.args.search.tie h c.args.search.start c.args.place c.loop-met.depth c.in-Some.met cut c.loop-met.self c.next.new.self c.loop-met.graph e (c.in-Some.ensures.next (c.args.search.tie, Some cut) h c.args.search.start e.popped) c.in-Some.ensures.taken (ap (λ v. v.items) c.next.ensures.candidates) (ap (λ v. v.items) c.next.ensures.lacking) c.next.ensures.seen) in
    rw (← c.loop-met.invariant.candidates, ← c.next.ensures.candidates) done

pub returns-clause-complete : goal.returns-clause-complete
returns-clause-complete g c = λ cut has.
    rw (← c.loop-met.invariant.candidates) (completes_ended c.args.search.tie (followed c.args.search.first_parent (g.S.Find.history c.args.graph.now.source)) c.args.search.start c.args.place c.loop-met.depth cut c.loop-met.self c.loop-met.graph (c.loop-met.invariant.completes cut has)
    (c.in_default.ensures.none refl) c.next.new.self.seen c.next.ensures.seen)

pub returns-in_err-counted-clause-fault : goal.returns-in_err-counted-clause-fault
returns-in_err-counted-clause-fault g c =
    let fault = rw c.loop-met.invariant.asked.same_history at c.in_err-counted.ensures.fault in
    rw (err_came c.from_residual.result _ c.from_residual.ensures.1) fault
