-- How parts that were read join.
use Rattle.std.proofs.Common.{◌≡◌, ℕ, List, Option, Result, Ok, Err, sym, ◌∙◌, ap, IsErrAnd}
use Rattle.gix_spec.specs.declared.spec.parse.Error.{Error}
use Rattle.gix_spec.specs.declared.spec.parse.context.Stopped.{Stopped}
use Rattle.gix_spec.specs.declared.spec.parse.part.Way.TheVariants.{Onward, Closed}
use Rattle.gix_spec.specs.declared.spec.parse.part.Behind.{Behind}
use Rattle.gix_spec.specs.Call.{Call}
use Rattle.gix_spec.specs.Answer.{Answer}
use Rattle.gix_spec.specs.Context.{Context}
use Rattle.gix_spec.specs.Part.{Part, Way, onward, closed, broken, joined, followed}
use Rattle.gix_spec.specs.Found.{way_of}
use Rattle.gix_spec.specs.Performs.{Performs, Reads}
use Rattle.gix_spec.proofs.Runs.{performs_then, performs_stop, performs_err}

module _ {S : Type 0} (by : S → Call → Answer → S → Type 0) where
  joined_reads : (v : Way) (p q : Part) {m n k : Context} {s u w : S} {b : Behind} {e error : Option Error} {out : Result Behind Stopped} →
      v ≡ onward → Performs by p.pieces s m u n (Ok b) e → Reads by q u n w k out error → Reads by (joined v p q) s m w k out error
  joined_reads onward p q h f g = record { calls = performs_then by f g.calls; behind = g.behind }
  joined_reads closed p q h f g = cc
  joined_reads broken p q h f g = cc

  -- a part behind which reading goes on, and another
  pub reads_then : (p : Part) (more : List ℕ → Part) {m n k : Context} {s u w : S} {b : Behind} {e error : Option Error} {out : Result Behind Stopped} →
      Reads by p s m u n (Ok b) e → b.way ≡ Onward → Reads by (more b.rest.now) u n w k out error → Reads by (followed p more) s m w k out error
  reads_then p more {b} f goes_on g =
      joined_reads p.way p (more p.rest) (sym f.behind.1 ∙ ap way_of goes_on) f.calls (rw f.behind.0 at g)

  -- the same, where the first part says that reading goes on
  pub reads_more : (p : Part) (more : List ℕ → Part) {m n k : Context} {s u w : S} {b : Behind} {e error : Option Error} {out : Result Behind Stopped} →
      p.way ≡ onward → Reads by p s m u n (Ok b) e → Reads by (more b.rest.now) u n w k out error → Reads by (followed p more) s m w k out error
  reads_more p more goes_on f g = joined_reads p.way p (more p.rest) goes_on f.calls (rw f.behind.0 at g)

  joined_ends : (v : Way) (p q : Part) {m n : Context} {s u : S} {b : Behind} {error : Option Error} → closed ≡ v → Reads by p s m u n (Ok b) error → Reads by (joined v p q) s m u n (Ok b) error
  joined_ends onward p q e f = cc
  joined_ends closed p q e f = f
  joined_ends broken p q e f = f

  -- a closer, behind which nothing more is read
  pub reads_ends : (p : Part) (more : List ℕ → Part) {m n : Context} {s u : S} {b : Behind} {error : Option Error} →
      Reads by p s m u n (Ok b) error → b.way ≡ Closed → Reads by (followed p more) s m u n (Ok b) error
  reads_ends p more f h = joined_ends p.way p (more p.rest) (sym (ap way_of h) ∙ f.behind.1) f

  joined_stops : (v : Way) (p q : Part) {m n k : Context} {s u : S} {e : Option Error} {x : Stopped} {out : Result Behind Stopped} →
      Reads by p s m u n (Err x) e → IsErrAnd out (λ y. y ≡ x) → Reads by (joined v p q) s m u k out e
  joined_stops v p q {out = Ok y} f h = absurd h
  joined_stops onward p q {out = Err y} f h = record { calls = performs_stop by q.pieces {out = Err y} f.calls h; behind = tt }
  joined_stops closed p q {out = Err y} f h = record { calls = performs_err by {out = Err y} f.calls h; behind = tt }
  joined_stops broken p q {out = Err y} f h = record { calls = performs_err by {out = Err y} f.calls h; behind = tt }

  -- a part that ended the run
  pub reads_stop : (p : Part) (more : List ℕ → Part) {m n k : Context} {s u : S} {e : Option Error} {x : Stopped} {out : Result Behind Stopped} →
      Reads by p s m u n (Err x) e → IsErrAnd out (λ y. y ≡ x) → Reads by (followed p more) s m u k out e
  reads_stop p more f h = joined_stops p.way p (more p.rest) f h
