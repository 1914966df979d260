-- If no piece asks the source or takes out an escape, no allocation fails.
use Rattle.std.proofs.Common.{◌≡◌, inl, inr, ◌||◌, ℕ, List, [], ◌∷◌, Option, Some, None, Bool, true, false, Result, Ok, Err, IsErrOf, refl}
use Rattle.gix_revision.specs.Call as calls
use Rattle.gix_revision.specs.Call.{Target}
use Rattle.gix_revision.specs.Context.{Context, start}
use Rattle.gix_revision.specs.Pieces.{Piece, exclude, regex, index, head, name, branch, reflog, sibling, date, unescaped, step, peel, path, closer, without_parent, range, finish, finished, fault}
use Rattle.gix_revision.specs.Reading.{pieces_of}
use Rattle.gix_revision.specs.Run.{IsRun, goes_on, turns, runs_out, has_room, has_none, without_memory, short_of_memory}
use Rattle.gix_revision.specs.Tree.{Tree, leaf, ask, takes}
use Rattle.gix_revision.specs.Trees.{tree_of, of_reference, at_time}
use Rattle.gix_revision.specs.Types.Error.{Error}
use Rattle.gix_revision.specs.Types.Error.TheVariants.{OutOfMemory, Refused}
use Rattle.gix_revision.specs.Types.Exn.{Exn}
use Rattle.gix_revision.specs.Types.Fault.{Fault}
use Rattle.gix_revision.specs.Types.Spec.{Spec}
use Rattle.gix_revision.specs.Types.Time.{Time}
use Rattle.gix_resolve.specs.Resolved.{Way, IsStepOrFaultBy, Ends, asked_as, asks_source, may_want_memory_by}
use Rattle.gix_resolve.specs.declared.state.State.{State}

module _ (demand : Target → Target) where
  -- no way through the tree asks the source or takes memory
  abbrev IsFrugal : Tree → Type 0
  IsFrugal (leaf l) = Unit {0}
  IsFrugal (takes t) = ⊥
  IsFrugal (ask c onward otherwise) = (asks_source (asked_as demand c) ≡ false) × IsFrugal onward × ((e : Exn) → IsFrugal (otherwise e))

  reference_frugal : (b : Bool) (onward : Tree) → IsFrugal onward → (f : Fault) (own : List ℕ) → IsFrugal (of_reference b f own onward)
  reference_frugal true onward h f own = tt
  reference_frugal false onward h f own = h

  time_frugal : (time : Option Time) (inner : List ℕ) (onward : Tree) → IsFrugal onward → IsFrugal (at_time time inner onward)
  time_frugal None inner onward h = tt
  time_frugal (Some t) inner onward h = (refl, h, λ e. tt)

  peel_frugal : (asks more : Bool) → (asks || false || more) ≡ false → (asks ≡ false) × (more ≡ false)
  peel_frugal true more h = cc
  peel_frugal false more h = (refl, h)

  tree_frugal : (ps : List Piece) (m : Context) → may_want_memory_by demand ps ≡ false → IsFrugal (tree_of ps m)
  tree_frugal [] m h = tt
  tree_frugal (exclude ∷ ps) m h = (refl, tree_frugal ps _ h, λ e. tt)
  tree_frugal (regex a b c ∷ ps) m h = (refl, tree_frugal ps _ h, λ e. tt)
  tree_frugal (index a b ∷ ps) m h = (refl, tree_frugal ps _ h, λ e. tt)
  tree_frugal (head ∷ ps) m h = (refl, tree_frugal ps _ h, λ e. tt)
  tree_frugal (name a b None ∷ ps) m h = (refl, tree_frugal ps _ h, λ e. tt)
  tree_frugal (name a b (Some p) ∷ ps) m h = (refl, tree_frugal ps _ h, λ e. (refl, tree_frugal ps _ h, λ d. tt))
  tree_frugal (branch a b ∷ ps) m h = (refl, tree_frugal ps _ h, λ e. tt)
  tree_frugal (reflog a b c ∷ ps) m h = reference_frugal m.own_prefix _ (refl, tree_frugal ps _ h, λ e. tt) _ b
  tree_frugal (sibling a b c ∷ ps) m h = reference_frugal m.own_prefix _ (refl, tree_frugal ps _ h, λ e. tt) _ b
  tree_frugal (date meaning own inner ∷ ps) m h = reference_frugal m.own_prefix _ (time_frugal (meaning m.now) inner _ (tree_frugal ps _ h)) _ own
  tree_frugal (unescaped ∷ ps) m h = cc
  tree_frugal (step a b ∷ ps) m h = cc
  tree_frugal (peel target b ∷ ps) m h =
      let both = peel_frugal (asks_source (calls.peel (demand target))) (may_want_memory_by demand ps) h in (both.0, tree_frugal ps _ both.1, λ e. tt)
  tree_frugal (path a ∷ ps) m h =
      let both = peel_frugal (asks_source (calls.peel (demand (calls.path a)))) (may_want_memory_by demand ps) h in (both.0, tree_frugal ps _ both.1, λ e. tt)
  tree_frugal (closer a b ∷ ps) m h = (refl, (refl, tree_frugal ps _ h, λ e. tt), λ e. tt)
  tree_frugal (without_parent a b c ∷ ps) m h = cc
  tree_frugal (range a ∷ ps) m h = (refl, tree_frugal ps _ h, λ e. tt)
  tree_frugal (finish ∷ ps) m h = (refl, tree_frugal ps _ h, λ e. tt)
  tree_frugal (finished ∷ ps) m h = tree_frugal ps _ h
  tree_frugal (fault a b ∷ ps) m h = tt

module _ (w : Way) where
  never_out : {s u : State} {t : Tree} → IsRun (IsStepOrFaultBy w) s t u without_memory → IsFrugal w.demand t → ⊥
  never_out (goes_on g r) f = never_out r f.1
  never_out (turns {e} g r) f = never_out r (f.2 e)
  never_out (runs_out g) f = cc (g.1, f.0)
  never_out (has_room r) f = f

  never_short : {s u : State} {t : Tree} → IsRun (IsStepOrFaultBy w) s t u short_of_memory → IsFrugal w.demand t → ⊥
  never_short (goes_on g r) f = never_short r f.1
  never_short (turns {e} g r) f = never_short r (f.2 e)
  never_short (has_room r) f = f
  never_short has_none f = f

  pub never_wanting : (text : List ℕ) (now : Time) (r : Result Spec Error) → Ends (IsStepOrFaultBy w) text now r → may_want_memory_by w.demand (pieces_of text) ≡ false → IsErrOf r OutOfMemory → ⊥
  never_wanting text now (Ok spec) k none is = cc
  never_wanting text now (Err OutOfMemory) (u, inl run) none is = never_out run (tree_frugal w.demand (pieces_of text) (start now) none)
  never_wanting text now (Err OutOfMemory) (u, inr run) none is = never_short run (tree_frugal w.demand (pieces_of text) (start now) none)
  never_wanting text now (Err (Refused f input first second)) k none is = cc
