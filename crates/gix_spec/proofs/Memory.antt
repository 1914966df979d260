-- Where no piece takes memory, the parse itself never wants any.
use Rattle.std.proofs.Common.{inl, inr, ◌≡◌, ℕ, List, [], ◌∷◌, Option, Some, None, Bool, true, false, Result, Ok, Err, IsErrOf}
use Rattle.gix_base.specs.declared.date.Time.{Time}
use Rattle.gix_base.specs.declared.error.Exn.{Exn}
use Rattle.gix_spec.specs.declared.spec.parse.Error.{Error}
use Rattle.gix_spec.specs.declared.spec.parse.Error.TheVariants.{OutOfMemory, Refused}
use Rattle.gix_spec.specs.Call.{Call}
use Rattle.gix_spec.specs.Answer.{Answer}
use Rattle.gix_spec.specs.Tree.{Tree, leaf, ask, takes}
use Rattle.gix_spec.specs.Run.{IsRun, goes_on, turns, has_room, has_none, without_memory, short_of_memory}
use Rattle.gix_spec.specs.Context.{Context}
use Rattle.gix_spec.specs.Pieces.{Piece, exclude, regex, index, head, name, branch, reflog, sibling, date, unescaped, step, peel, path, closer, without_parent, range, finish, finished, fault}
use Rattle.gix_spec.specs.Trees.{tree_of, takes_memory, of_reference, at_time, repeat}
use Rattle.gix_spec.specs.Parse.{Parses}

-- a tree that takes no memory at any point
abbrev pub IsFrugal : Tree → Type 0
IsFrugal (leaf l) = Unit {0}
IsFrugal (ask c onward otherwise) = IsFrugal onward × ((e : Exn) → IsFrugal (otherwise e))
IsFrugal (takes t) = ⊥

of_reference_frugal : (b : Bool) (onward : Tree) → IsFrugal onward → (f : _) (own : List ℕ) → IsFrugal (of_reference b f own onward)
of_reference_frugal true onward h f own = tt
of_reference_frugal false onward h f own = h

repeat_frugal : (anchor : Option Call) (after : List ℕ) (onward : Tree) → IsFrugal onward → IsFrugal (repeat anchor after onward)
repeat_frugal None after onward h = tt
repeat_frugal (Some c) after onward h = (h, λ e. tt)

at_time_frugal : (time : Option Time) (inner : List ℕ) (onward : Tree) → IsFrugal onward → IsFrugal (at_time time inner onward)
at_time_frugal None inner onward h = tt
at_time_frugal (Some t) inner onward h = (h, λ e. tt)

pub tree_frugal : (ps : List Piece) (m : Context) → takes_memory ps ≡ false → IsFrugal (tree_of ps m)
tree_frugal [] m h = tt
tree_frugal (unescaped ∷ ps) m h = cc
tree_frugal (exclude ∷ ps) m h = (tree_frugal ps _ h, λ e. tt)
tree_frugal (regex a b c ∷ ps) m h = (tree_frugal ps _ h, λ e. tt)
tree_frugal (index a b ∷ ps) m h = (tree_frugal ps _ h, λ e. tt)
tree_frugal (head ∷ ps) m h = (tree_frugal ps _ h, λ e. tt)
tree_frugal (name a b None ∷ ps) m h = (tree_frugal ps _ h, λ e. tt)
tree_frugal (name a b (Some p) ∷ ps) m h = (tree_frugal ps _ h, λ e. (tree_frugal ps _ h, λ d. tt))
tree_frugal (branch a b ∷ ps) m h = (tree_frugal ps _ h, λ e. tt)
tree_frugal (reflog a b c ∷ ps) m h = of_reference_frugal m.own_prefix _ (tree_frugal ps _ h, λ e. tt) _ b
tree_frugal (sibling a b c ∷ ps) m h = of_reference_frugal m.own_prefix _ (tree_frugal ps _ h, λ e. tt) _ b
tree_frugal (date meaning own inner ∷ ps) m h = of_reference_frugal m.own_prefix _ (at_time_frugal (meaning m.now) inner _ (tree_frugal ps _ h)) _ own
tree_frugal (step a b ∷ ps) m h = (tree_frugal ps _ h, λ e. tt)
tree_frugal (peel a b ∷ ps) m h = (tree_frugal ps _ h, λ e. tt)
tree_frugal (path a ∷ ps) m h = (tree_frugal ps _ h, λ e. tt)
tree_frugal (closer a b ∷ ps) m h = ((tree_frugal ps _ h, λ e. tt), λ e. tt)
tree_frugal (without_parent a b c ∷ ps) m h =
    ((repeat_frugal m.anchor b _ (tree_frugal ps m h, λ e. tt), λ e. tt), λ e. tt)
tree_frugal (range a ∷ ps) m h = (tree_frugal ps _ h, λ e. tt)
tree_frugal (finish ∷ ps) m h = (tree_frugal ps _ h, λ e. tt)
tree_frugal (finished ∷ ps) m h = tree_frugal ps _ h
tree_frugal (fault a b ∷ ps) m h = tt

module _ {S : Type 0} (by : S → Call → Answer → S → Type 0) where
  never_short : {s u : S} {t : Tree} → IsRun by s t u short_of_memory → IsFrugal t → ⊥
  never_short (goes_on h r) f = never_short r f.0
  never_short (turns {e} h r) f = never_short r (f.1 e)
  never_short (has_room r) f = f
  never_short has_none f = f

  parse_memory : {s u : S} (t : Tree) (out : Result (Unit {0}) Error) → IsFrugal t → Parses by s t u out → IsErrOf out OutOfMemory → IsRun by s t u without_memory
  parse_memory t (Ok a) f r h = cc
  parse_memory t (Err OutOfMemory) f (inl r) h = r
  parse_memory t (Err OutOfMemory) f (inr r) h = absurd (never_short r f)
  parse_memory t (Err (Refused g i a b)) f r h = cc

  -- where no piece takes memory, a parse without memory was answered so by its delegate
  pub memory_of_delegate : {s u : S} (out : Result (Unit {0}) Error) (ps : List Piece) (m : Context) → takes_memory ps ≡ false →
      Parses by s (tree_of ps m) u out → IsErrOf out OutOfMemory → IsRun by s (tree_of ps m) u without_memory
  memory_of_delegate out ps m h r w = parse_memory (tree_of ps m) out (tree_frugal ps m h) r w
