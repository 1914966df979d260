-- What every parse keeps to, by the tree of the pieces.
use Rattle.std.proofs.Common.{◌≡◌, ◌⊎◌, inl, inr, ℕ, List, [], ◌∷◌, ◌++◌, ◌&&◌, Bool, true, false, Option, Some, None, refl, subst}
use Rattle.std.specs.List.{list_all}
use Rattle.gix_base.specs.declared.error.Exn.{Exn}
use Rattle.gix_base.specs.declared.date.Time.{Time}
use Rattle.gix_spec.specs.declared.spec.parse.fault.Fault.{Fault}
use Rattle.gix_spec.specs.declared.spec.parse.fault.Fault.TheVariants.{NameRefused}
use Rattle.gix_spec.specs.declared.spec.parse.delegate.Traversal.TheVariants.{NthParent, NthAncestor}
use Rattle.gix_spec.specs.Call.{Call, find_ref, prefix, reflog as asks_reflog, branch as asks_branch, sibling as asks_sibling, kind, traverse, peel as asks_peel, find, index as asks_index, done}
use Rattle.gix_spec.specs.Answer.{Answer, accepted, refused, no_memory}
use Rattle.gix_spec.specs.Tree.{Tree, Leaf, leaf, ask, takes, fine, faulty}
use Rattle.gix_spec.specs.Run.{IsRun, at_leaf, goes_on, turns, runs_out, has_room, has_none, Outcome, ended}
use Rattle.gix_spec.specs.Context.{Context, start}
use Rattle.gix_spec.specs.Pieces.{Piece, exclude, regex, index, head, name, branch, reflog, sibling, date, unescaped, step, peel, path, closer, without_parent, range, finish, finished, fault}
use Rattle.gix_spec.specs.Trees.{tree_of, of_reference, at_time, repeat, takes_memory}
use Rattle.gix_spec.specs.Reading.{pieces_of}
use Rattle.gix_spec.specs.Written.{NoFault}
use Rattle.gix_spec.specs.Ends.{Records, DoneIsLast, ReadsAll, FaultIsLast, HasNoEscape, TakesNone, is_numbered, CallsAreNumbered, NamesPart, SecondIsOfName}
use Rattle.gix_spec.proofs.Sound.{Within, GivenWithin, AllSound}
use Rattle.gix_spec.proofs.Ending.{EndsWell, LastFault, MayEnd, may_end_where}
use Rattle.gix_spec.proofs.Spelled.{pieces_spelled}
use Rattle.gix_spec.proofs.Whole.{pieces_whole}

abbrev is_done : Call → Bool
is_done done = true
is_done _ = false

-- two refusals led to a refused name alone
abbrev SecondOfName : Fault → Option Exn → Type 0
SecondOfName f None = Unit {0}
SecondOfName f (Some e) = f ≡ NameRefused

-- each way through the tree asks for what may be asked and ends as it may: well only behind `done`, where all was read;
-- else with a part of the text w
abbrev Keeps : (w : List ℕ) (P : Type 0) (called : Bool) → Tree → Type 0
Keeps w P called (leaf fine) = (called ≡ true) × P
Keeps w P called (leaf (faulty f i a b)) = GivenWithin i w × SecondOfName f b
Keeps w P called (ask c onward otherwise) = (is_numbered c ≡ true) × Keeps w P (is_done c) onward × ((e : Exn) → Keeps w P false (otherwise e))
Keeps w P called (takes t) = Keeps w P called t

-- what was accepted last is a name
abbrev AnchorKeeps : Option Call → Type 0
AnchorKeeps None = Unit {0}
AnchorKeeps (Some c) = is_numbered c ≡ true

repeat_keeps : (w : List ℕ) (P : Type 0) (anchor : Option Call) (after : List ℕ) (onward : Tree) → AnchorKeeps anchor → Within after w → ((b : Bool) → Keeps w P b onward) →
    Keeps w P false (repeat anchor after onward)
repeat_keeps w P None after onward a h k = (h, tt)
repeat_keeps w P (Some c) after onward a h k = (a, k (is_done c), λ e. (h, tt))

reference_keeps : (w : List ℕ) (P : Type 0) (called own_prefix : Bool) (f : Fault) (own : List ℕ) (onward : Tree) → Within own w → Keeps w P called onward →
    Keeps w P called (of_reference own_prefix f own onward)
reference_keeps w P called true f own onward h k = (h, tt)
reference_keeps w P called false f own onward h k = k

time_keeps : (w : List ℕ) (P : Type 0) (called : Bool) (time : Option Time) (inner : List ℕ) (onward : Tree) → Within inner w → Keeps w P false onward →
    Keeps w P called (at_time time inner onward)
time_keeps w P called None inner onward h k = (h, tt)
time_keeps w P called (Some t) inner onward h k = (refl, k, λ e. (h, tt))

tree_keeps : (w : List ℕ) (P : Type 0) (called : Bool) (ps : List Piece) (m : Context) → AnchorKeeps m.anchor → AllSound w ps → EndsWell called ps → MayEnd P ps → Keeps w P called (tree_of ps m)
tree_keeps w P called [] m a h k l = (k, l)
tree_keeps w P called (exclude ∷ ps) m a h k l = (refl, tree_keeps w P false ps m a h.1 k l, λ e. (tt, tt))
tree_keeps w P called (regex x y z ∷ ps) m a h k l = (refl, tree_keeps w P false ps m a h.1 k l, λ e. (h.0, tt))
tree_keeps w P called (index x n ∷ ps) m a h k l = (h.0.1, tree_keeps w P false ps m a h.1 k l, λ e. (h.0.0, tt))
tree_keeps w P called (head ∷ ps) m a h k l = (refl, tree_keeps w P false ps _ refl h.1 k l, λ e. (tt, tt))
tree_keeps w P called (name x y None ∷ ps) m a h k l = (refl, tree_keeps w P false ps _ refl h.1 k l, λ e. (h.0, tt))
tree_keeps w P called (name x y (Some p) ∷ ps) m a h k l =
    (refl, tree_keeps w P false ps _ refl h.1 k l, λ e. (refl, tree_keeps w P false ps _ refl h.1 k l, λ d. (h.0, refl)))
tree_keeps w P called (branch x y ∷ ps) m a h k l = (h.0.1, tree_keeps w P false ps m a h.1 k l, λ e. (h.0.0, tt))
tree_keeps w P called (reflog x y z ∷ ps) m a h k l =
    reference_keeps w P called m.own_prefix _ y _ h.0.0 (refl, tree_keeps w P false ps m a h.1 k l, λ e. (h.0.1, tt))
tree_keeps w P called (sibling x y z ∷ ps) m a h k l =
    reference_keeps w P called m.own_prefix _ y _ h.0.0 (refl, tree_keeps w P false ps m a h.1 k l, λ e. (h.0.1, tt))
tree_keeps w P called (date x y z ∷ ps) m a h k l =
    reference_keeps w P called m.own_prefix _ y _ h.0.0 (time_keeps w P called (x m.now) z _ h.0.1 (tree_keeps w P false ps m a h.1 k l))
tree_keeps w P called (unescaped ∷ ps) m a h k l = tree_keeps w P called ps m a h.1 k l
tree_keeps w P called (step (NthParent n) y ∷ ps) m a h k l = (h.0.1, tree_keeps w P false ps m a h.1 k l, λ e. (h.0.0, tt))
tree_keeps w P called (step (NthAncestor n) y ∷ ps) m a h k l = (refl, tree_keeps w P false ps m a h.1 k l, λ e. (h.0, tt))
tree_keeps w P called (peel x y ∷ ps) m a h k l = (refl, tree_keeps w P false ps m a h.1 k l, λ e. (h.0, tt))
tree_keeps w P called (path x ∷ ps) m a h k l = (refl, tree_keeps w P false ps m a h.1 k l, λ e. (h.0, tt))
tree_keeps w P called (closer x y ∷ ps) m a h k l = (refl, (refl, tree_keeps w P true ps m a h.1 k l, λ e. (h.0, tt)), λ e. (h.0, tt))
tree_keeps w P called (without_parent n x y ∷ ps) m a h k l =
    (h.0.2, (refl, repeat_keeps w P m.anchor x _ a h.0.0 (λ b. (refl, tree_keeps w P true ps m a h.1 k l, λ e. (h.0.1, tt))), λ e. (h.0.0, tt)), λ e. (h.0.0, tt))
tree_keeps w P called (range x ∷ ps) m a h k l = (refl, tree_keeps w P false ps _ a h.1 k l, λ e. (tt, tt))
tree_keeps w P called (finish ∷ ps) m a h k l = (refl, tree_keeps w P true ps m a h.1 k l, λ e. (tt, tt))
tree_keeps w P called (finished ∷ ps) m a h k l = tree_keeps w P called ps m a h.1 k l
tree_keeps w P called (fault x y ∷ ps) m a h k l = (h.0, tt)

-- a text none of whose pieces is a fault
abbrev IsWell : (text : List ℕ) → Type 0
IsWell text = NoFault (pieces_of text)

-- the tree of a text
text_keeps : (text : List ℕ) (now : Time) → Keeps text (IsWell text) false (tree_of (pieces_of text) (start now))
text_keeps text now =
    let whole = pieces_whole text in tree_keeps text (IsWell text) false (pieces_of text) (start now) tt whole.sound (whole.ends false) (may_end_where (IsWell text) (pieces_of text) (λ well. well))

is_done-true : (c : Call) → is_done c ≡ true → c ≡ done
is_done-true done h = refl
is_done-true (find_ref a) h = cc
is_done-true (prefix a b) h = cc
is_done-true (asks_reflog a) h = cc
is_done-true (asks_branch a) h = cc
is_done-true (asks_sibling a) h = cc
is_done-true (kind a) h = cc
is_done-true (traverse a) h = cc
is_done-true (asks_peel a) h = cc
is_done-true (find a b) h = cc
is_done-true (asks_index a b) h = cc

module _ {S : Type 0} (by : S → Call → Answer → S → Type 0) where
  -- the leaf that a run ends at
  at_end : {s u : S} {t : Tree} {l : Leaf} (w : List ℕ) (P : Type 0) (called : Bool) → IsRun by s t u (ended l) → Keeps w P called t → (b : Bool) × Keeps w P b (leaf l)
  at_end w P called at_leaf h = (called, h)
  at_end w P called (goes_on {c} g r) h = at_end w P (is_done c) r h.1
  at_end w P called (turns {e} g r) h = at_end w P false r (h.2 e)
  at_end w P called (has_room r) h = at_end w P called r h

  pub reads_all : ReadsAll by
  reads_all text now s u r = ((at_end text (IsWell text) false r (text_keeps text now)).1.1, pieces_spelled text)

  pub names_part : NamesPart by
  names_part text now s u f input first second r = (at_end text (IsWell text) false r (text_keeps text now)).1.0.within

  pub second_is_of_name : SecondIsOfName by
  second_is_of_name text now s u f input first second r = (at_end text (IsWell text) false r (text_keeps text now)).1.1

  -- a run that ends well ends at once, or `done` led to its end
  abbrev Done : S → Type 0
  Done u = (v : S) × by v done accepted u

  done_there : {s t u : S} (c : Call) → by s c accepted t → ((is_done c ≡ true) × (t ≡ u)) ⊎ Done u → Done u
  done_there {s} {t} c h (inl last) = (s, subst (λ w. by s done accepted w) last.1 (subst (λ d. by s d accepted t) (is_done-true c last.0) h))
  done_there c h (inr more) = more

  done_before : {s u : S} → ((false ≡ true) × (s ≡ u)) ⊎ Done u → Done u
  done_before (inl never) = cc
  done_before (inr more) = more

  came_to_done : {s u : S} {t : Tree} (w : List ℕ) (P : Type 0) (called : Bool) → IsRun by s t u (ended fine) → Keeps w P called t → ((called ≡ true) × (s ≡ u)) ⊎ Done u
  came_to_done w P called at_leaf h = inl (h.0, refl)
  came_to_done w P called (goes_on {c} g r) h = inr (done_there c g (came_to_done w P (is_done c) r h.1))
  came_to_done w P called (turns {e} g r) h = inr (done_before (came_to_done w P false r (h.2 e)))
  came_to_done w P called (has_room r) h = came_to_done w P called r h

pub done_is_last : DoneIsLast
done_is_last text now s r = done_before Records (came_to_done Records text (IsWell text) false r (text_keeps text now))

-- each call that was recorded was one of the tree
both : (b : Bool) {x y : Bool} → (b && x) ≡ true → (x ≡ true → y ≡ true) → (b && y) ≡ true
both true h f = f h
both false h f = cc

list_all-append : (s t : List (Call × Answer)) → list_all (λ x. is_numbered x.0) s ≡ true → list_all (λ x. is_numbered x.0) t ≡ true → list_all (λ x. is_numbered x.0) (s ++ t) ≡ true
list_all-append [] t h k = k
list_all-append (x ∷ s) t h k = both (is_numbered x.0) h (λ e. list_all-append s t e k)

numbered_more : (s t : List (Call × Answer)) (c : Call) (a : Answer) → list_all (λ x. is_numbered x.0) s ≡ true → is_numbered c ≡ true → t ≡ s ++ (c, a) ∷ [] → list_all (λ x. is_numbered x.0) t ≡ true
numbered_more s t c a h k e = rw e (list_all-append s ((c, a) ∷ []) h (rw k refl))

numbered : {s u : List (Call × Answer)} {t : Tree} {o : Outcome} (w : List ℕ) (P : Type 0) (called : Bool) → IsRun Records s t u o → Keeps w P called t →
    list_all (λ x. is_numbered x.0) s ≡ true → list_all (λ x. is_numbered x.0) u ≡ true
numbered w P called at_leaf h k = k
numbered w P called (goes_on {s} {t} {c} g r) h k = numbered w P (is_done c) r h.1 (numbered_more s t c accepted k h.0 g)
numbered w P called (turns {s} {t} {c} {e} g r) h k = numbered w P false r (h.2 e) (numbered_more s t c (refused e) k h.0 g)
numbered w P called (runs_out {s} {t} {c} g) h k = numbered_more s t c no_memory k h.0 g
numbered w P called (has_room r) h k = numbered w P called r h k
numbered w P called has_none h k = k

pub calls_are_numbered : CallsAreNumbered
calls_are_numbered text now s o r = numbered text (IsWell text) false r (text_keeps text now) refl

-- a fault with more behind it is not the last
last_there : (before after : List Piece) (f : Fault) (i : Option (List ℕ)) → LastFault (before ++ fault f i ∷ after) → after ≡ []
last_there [] after f i h = h.0 refl
last_there (p ∷ before) after f i h = last_there before after f i h.1

pub fault_is_last : FaultIsLast
fault_is_last text before after f i e = last_there before after f i (subst LastFault e (pieces_whole text).last)

-- sound pieces of a text without escapes take no memory
takes_none : (w : List ℕ) → HasNoEscape w → (ps : List Piece) → AllSound w ps → takes_memory ps ≡ false
takes_none w z [] h = refl
takes_none w z (exclude ∷ ps) h = takes_none w z ps h.1
takes_none w z (regex x y v ∷ ps) h = takes_none w z ps h.1
takes_none w z (index x n ∷ ps) h = takes_none w z ps h.1
takes_none w z (head ∷ ps) h = takes_none w z ps h.1
takes_none w z (name x y v ∷ ps) h = takes_none w z ps h.1
takes_none w z (branch x y ∷ ps) h = takes_none w z ps h.1
takes_none w z (reflog x y v ∷ ps) h = takes_none w z ps h.1
takes_none w z (sibling x y v ∷ ps) h = takes_none w z ps h.1
takes_none w z (date x y v ∷ ps) h = takes_none w z ps h.1
takes_none w z (unescaped ∷ ps) h = cc (z h.0.0 h.0.1, h.0.2)
takes_none w z (step x y ∷ ps) h = takes_none w z ps h.1
takes_none w z (peel x y ∷ ps) h = takes_none w z ps h.1
takes_none w z (path x ∷ ps) h = takes_none w z ps h.1
takes_none w z (closer x y ∷ ps) h = takes_none w z ps h.1
takes_none w z (without_parent n x y ∷ ps) h = takes_none w z ps h.1
takes_none w z (range x ∷ ps) h = takes_none w z ps h.1
takes_none w z (finish ∷ ps) h = takes_none w z ps h.1
takes_none w z (finished ∷ ps) h = takes_none w z ps h.1
takes_none w z (fault x y ∷ ps) h = takes_none w z ps h.1

pub texts_take_none : TakesNone
texts_take_none text plain = takes_none text plain (pieces_of text) (pieces_whole text).sound
