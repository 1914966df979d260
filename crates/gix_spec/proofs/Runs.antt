-- How what the parts of a parse do joins into runs.
use Rattle.std.proofs.Common.{refl, subst, inl, inr, option_map, Bor, ◌≡◌, ℕ, List, [], ◌∷◌, ◌++◌, Option, Some, None, cond, Bool, true, false, Result, Ok, Err, append_assoc, append-nil, IsErrAnd, IsSome, IsSomeAnd}
use Rattle.gix_base.specs.declared.error.Exn.{Exn, out-Exn}
use Rattle.gix_spec.specs.declared.spec.parse.fault.Fault.{Fault}
use Rattle.gix_spec.specs.declared.spec.parse.context.Stopped.{Stopped}
use Rattle.gix_spec.specs.declared.spec.parse.Error.{Error}
use Rattle.gix_spec.specs.declared.spec.parse.Error.TheVariants.{OutOfMemory, Refused}
use Rattle.gix_spec.specs.Call.{Call}
use Rattle.gix_spec.specs.Answer.{Answer, answer_of, refused, no_memory}
use Rattle.gix_spec.specs.Tree.{Tree, takes, fine, faulty}
use Rattle.gix_spec.specs.Run.{IsRun, at_leaf, goes_on, turns, runs_out, has_room, has_none, IsBeginning, stops, begins_accepted, begins_refused, begins_out, begins_room, Outcome, ended, without_memory, short_of_memory}
use Rattle.gix_spec.specs.Context.{Context}
use Rattle.gix_spec.specs.Pieces.{Piece, unescaped, finished, fault}
use Rattle.gix_spec.specs.Trees.{tree_of, demand, repeat}
use Rattle.gix_spec.specs.Parse.{Fails, Parses}
use Rattle.gix_spec.specs.Performs.{told_by, Leads, GoesTo, Performs, Asks, DemandedBy, Demanded}

module _ {S : Type 0} (by : S → Call → Answer → S → Type 0) where
  -- a run that a part ended, seen from further back
  fails_after : (s u w : S) (t v : Tree) (e : Error) → Leads by s t u v → Fails by u v w e → Fails by s t w e
  fails_after s u w t v OutOfMemory f (inl r) = inl (f w without_memory r)
  fails_after s u w t v OutOfMemory f (inr r) = inr (f w short_of_memory r)
  fails_after s u w t v (Refused g i a b) f r = f w (ended (faulty g (option_map (λ x. x.now) i) a b)) r

  refused_at : (b : Bool) (e : Exn) (c : Call) (s u : S) → b ≡ false → by s c (cond b no_memory (refused e)) u → by s c (refused e) u
  refused_at b e c s u h k = rw h at k

  out_at : (b : Bool) (e : Exn) (c : Call) (s u : S) → b ≡ true → by s c (cond b no_memory (refused e)) u → by s c no_memory u
  out_at b e c s u h k = rw h at k

  pub demand_goes : (r : Result (Unit {0}) Exn) (out : Result (Unit {0}) (Option Error)) (c : Call) (f : Fault) (i : Option (List ℕ)) (v : Tree) (s u : S) →
      by s c (answer_of r) u → DemandedBy r f i out → GoesTo by s (demand c f i v) u out v
  demand_goes (Ok a) (Ok b) c f i v s u h d = λ w o r. goes_on h r
  demand_goes (Err e) (Err (Some OutOfMemory)) c f i v s u h d = inl (runs_out (out_at (out-Exn e).out_of_memory e c s u d h))
  demand_goes (Err e) (Err (Some (Refused g j a b))) c f i v s u h d = rw (d.1, d.2, d.3, d.4) (turns (refused_at (out-Exn e).out_of_memory e c s u d.0 h) at_leaf)
  demand_goes (Err e) (Err None) c f i v s u h d = absurd d
  demand_goes (Ok a) (Err err) c f i v s u h d = absurd d
  demand_goes (Err e) (Ok b) c f i v s u h d = absurd d

  -- a piece that is one call, after which this is known
  pub performs_demand : {p : Piece} {c : Call} {f : Fault} {i : Option (List ℕ)} {m k : Context} {s u : S} {r : Result (Unit {0}) Exn} {out : Result (Unit {0}) Stopped} {error : Option Error} (after : Context → Context) →
      ((more : List Piece) → tree_of (p ∷ more) m ≡ demand c f i (tree_of more (after m))) → k ≡ m → by s c (answer_of r) u → Demanded r f i out error → Performs by (p ∷ []) s m u (after k) out error
  performs_demand {c} {f} {i} {m} {s} {u} {r} {out} {error} after same known h d = record {
    performs = λ more. rw (same more, known) (demand_goes r (told_by out error) c f i (tree_of more (after m)) s u h d.demanded);
  }

  -- an error that a part gave is handed on
  pub performs_err : {X Y : Type 0} {ps : List Piece} {m n k : Context} {s u : S} {e : Option Error} {x : Stopped} {out : Result Y Stopped} →
      Performs {X = X} by ps s m u n (Err x) e → IsErrAnd out (λ y. y ≡ x) → Performs by ps s m u k out e
  performs_err {out = Ok y} h q = absurd q
  performs_err {out = Err y} h q = record { performs = λ more. h.performs more }

  goes_then : {X Y : Type 0} (s u w : S) (t v z : Tree) (x : X) (out : Result Y (Option Error)) → Leads by s t u v → GoesTo by u v w out z → GoesTo by s t w out z
  goes_then s u w t v z x (Ok y) f g = λ k o r. f k o (g k o r)
  goes_then s u w t v z x (Err (Some e)) f g = fails_after s u w t v e f g
  goes_then s u w t v z x (Err None) f g = absurd g

  -- nothing is left to do
  pub performs_none : {X : Type 0} {m : Context} {s : S} {error : Option Error} (x : X) → Performs by [] s m s m (Ok x) error
  performs_none x = record { performs = λ more w o r. r }

  -- the end behind a closer makes no call
  pub performs_finished : {X : Type 0} {m : Context} {s : S} {error : Option Error} (x : X) → Performs by (finished ∷ []) s m s m (Ok x) error
  performs_finished x = record { performs = λ more w o r. r }

  -- a call that has to be accepted
  pub asks_demand : {c : Call} {f : Fault} {i : Option (List ℕ)} {s u : S} {r : Result (Unit {0}) Exn} {out : Result (Unit {0}) Stopped} {error : Option Error} →
      by s c (answer_of r) u → Demanded r f i out error → Asks by (demand c f i) s u out error
  asks_demand {c} {f} {i} {s} {u} {r} {out} {error} h d = record { asks = λ onward. demand_goes r (told_by out error) c f i onward s u h d.demanded }

  -- some calls after others
  pub asks_then : {X Y : Type 0} {a b : Tree → Tree} {s u w : S} {x : X} {e error : Option Error} {out : Result Y Stopped} →
      Asks by a s u (Ok x) e → Asks by b u w out error → Asks by (λ v. a (b v)) s w out error
  asks_then {a} {b} {s} {u} {w} {x} {error} {out} f g = record { asks = λ onward. goes_then s u w (a (b onward)) (b onward) onward x (told_by out error) (f.asks (b onward)) (g.asks onward) }

  -- calls that ended the run, whatever was to follow them
  pub asks_stop : {X Y : Type 0} {a : Tree → Tree} (b : Tree → Tree) {s u : S} {e : Option Error} {x : Stopped} {out : Result Y Stopped} →
      Asks {X = X} by a s u (Err x) e → IsErrAnd out (λ y. y ≡ x) → Asks by (λ v. a (b v)) s u out e
  asks_stop b {out = Ok y} h q = absurd q
  asks_stop b {out = Err y} h q = record { asks = λ onward. h.asks (b onward) }

  -- a piece by its calls, which change nothing of what is known
  pub performs_asks : {X : Type 0} {p : Piece} {a : Tree → Tree} {m n : Context} {s u : S} {out : Result X Stopped} {error : Option Error} →
      ((more : List Piece) → tree_of (p ∷ more) m ≡ a (tree_of more m)) → n ≡ m → Asks by a s u out error → Performs by (p ∷ []) s m u n out error
  performs_asks {m} same known h = record { performs = λ more. rw (same more, known) (h.asks (tree_of more m)) }

  -- the call that is repeated, where nothing that is known has changed
  pub asks_again : {X : Type 0} {m n : Context} (rest : List ℕ) {s u : S} {out : Result X Stopped} {error : Option Error} →
      n ≡ m → Asks by (repeat n.anchor rest) s u out error → Asks by (repeat m.anchor rest) s u out error
  asks_again rest {s} {u} {out} {error} known h = subst (λ k. Asks by (repeat k.anchor rest) s u out error) known h

  -- one part after another
  pub performs_then : {X Y : Type 0} {ps qs : List Piece} {m n k : Context} {s u w : S} {x : X} {e error : Option Error} {out : Result Y Stopped} →
      Performs by ps s m u n (Ok x) e → Performs by qs u n w k out error → Performs by (ps ++ qs) s m w k out error
  performs_then {ps} {qs} {m} {n} {k} {s} {u} {w} {x} {error} {out} f g = record {
    performs = λ more.
        rw append_assoc (goes_then s u w (tree_of (ps ++ (qs ++ more)) m) (tree_of (qs ++ more) n) (tree_of more k) x (told_by out error) (f.performs (qs ++ more)) (g.performs more));
  }

  -- a part that ended the run, whatever was to follow it
  pub performs_stop : {X Y : Type 0} {ps : List Piece} (qs : List Piece) {m n k : Context} {s u : S} {e : Option Error} {x : Stopped} {out : Result Y Stopped} →
      Performs {X = X} by ps s m u n (Err x) e → IsErrAnd out (λ y. y ≡ x) → Performs by (ps ++ qs) s m u k out e
  performs_stop qs {out = Ok y} h q = absurd q
  performs_stop {ps} qs {m} {s} {u} {e} {out = Err y} h q = record { performs = λ more. rw append_assoc (h.performs (qs ++ more)) }

  -- a fault of the text
  pub performs_fault : {X : Type 0} {f : Fault} {i : Option (List ℕ)} {j : Option (Bor (List ℕ))} {m n : Context} {s : S} {x : Stopped} →
      option_map (λ y. y.now) j ≡ i → Performs {X = X} by (fault f i ∷ []) s m s n (Err x) (Some (Refused f j None None))
  performs_fault h = record { performs = λ more. rw h at_leaf }

  -- an escape was taken out, and then some pieces were read
  pub performs_room : {X : Type 0} {ps : List Piece} {m n : Context} {s u : S} {out : Result X Stopped} {error : Option Error} →
      Performs by ps s m u n out error → Performs by (unescaped ∷ ps) s m u n out error
  performs_room {ps} {m} {n} {s} {u} {out} {error} h = record {
    performs = λ more.
        goes_then s s u (takes (tree_of (ps ++ more) m)) (tree_of (ps ++ more) m) (tree_of more n) (tt {0}) (told_by out error) (λ w o r. has_room r) (h.performs more);
  }

  -- there was no memory for it
  pub performs_short : {X : Type 0} {ps : List Piece} {m n : Context} {s : S} {x : Stopped} → Performs {X = X} by (unescaped ∷ ps) s m s n (Err x) (Some OutOfMemory)
  performs_short = record { performs = λ more. inr has_none }

  -- the run of a whole text, which was read to its end or has stopped so
  pub runs_whole : {ps : List Piece} {m n : Context} {s u : S} {x : Unit {0}} {error : Option Error} → Performs by ps s m u n (Ok x) error → Parses by s (tree_of ps m) u (Ok x)
  runs_whole {ps} {u} h = (rw append-nil at (h.performs [])) u (ended fine) at_leaf

  stops_so : (s u : S) (t : Tree) {error : Option Error} (e : Error) → error ≡ Some e → IsSomeAnd error (λ x. Fails by s t u x) → Fails by s t u e
  stops_so s u t e same h = rw same at h

  pub runs_stopped : {ps : List Piece} {m n : Context} {s u : S} {x : Stopped} {error : Option Error} (e : Error) →
      error ≡ Some e → Performs {X = Unit {0}} by ps s m u n (Err x) error → Parses by s (tree_of ps m) u (Err e)
  runs_stopped {ps} e same h = stops_so _ _ _ e same (rw append-nil at (h.performs []))

  -- where the parse has stopped, it is kept why
  pub is_told : {X : Type 0} {ps : List Piece} {m n : Context} {s u : S} {x : Stopped} {error : Option Error} → Performs {X = X} by ps s m u n (Err x) error → IsSome error
  is_told {error = Some e} h = refl
  is_told {error = None} h = absurd (h.performs [])

  -- every run is a beginning of one
  pub beginning_of_run : {s u : S} {t : Tree} {o : Outcome} → IsRun by s t u o → IsBeginning by s t u
  beginning_of_run at_leaf = stops
  beginning_of_run (goes_on h r) = begins_accepted h (beginning_of_run r)
  beginning_of_run (turns h r) = begins_refused h (beginning_of_run r)
  beginning_of_run (runs_out h) = begins_out h
  beginning_of_run (has_room r) = begins_room (beginning_of_run r)
  beginning_of_run has_none = stops

  pub beginning_of_parse : {s u : S} (t : Tree) (out : Result (Unit {0}) Error) → Parses by s t u out → IsBeginning by s t u
  beginning_of_parse t (Ok a) r = beginning_of_run r
  beginning_of_parse t (Err OutOfMemory) (inl r) = beginning_of_run r
  beginning_of_parse t (Err OutOfMemory) (inr r) = beginning_of_run r
  beginning_of_parse t (Err (Refused f i a b)) r = beginning_of_run r
