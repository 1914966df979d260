-- The tree of the pieces of a text.
use Rattle.std.specs.Prelude.{ℕ, List, [], ◌∷◌, Option, Some, None, Bool, true, false, ◌||◌}
use Rattle.gix_base.specs.declared.date.Time.{Time}
use Rattle.gix_spec.specs.declared.spec.Kind.{Kind}
use Rattle.gix_spec.specs.declared.spec.Kind.TheVariants.{ExcludeReachable, RangeBetween}
use Rattle.gix_spec.specs.declared.spec.parse.delegate.ReflogLookup.{ReflogLookup}
use Rattle.gix_spec.specs.declared.spec.parse.delegate.ReflogLookup.TheVariants.{Date as AtDate}
use Rattle.gix_spec.specs.declared.spec.parse.delegate.SiblingBranch.{SiblingBranch}
use Rattle.gix_spec.specs.declared.spec.parse.delegate.Traversal.TheVariants.{NthParent}
use Rattle.gix_spec.specs.declared.spec.parse.fault.Fault.{Fault}
use Rattle.gix_spec.specs.declared.spec.parse.fault.Fault.TheVariants.{KindRefused, HeadRefused, Unconsumed, DoneRefused, DoneRefusedInNavigation, FindRefused, IndexRefused, NameRefused, ReflogWithoutName, SiblingWithoutName, Date, AtRefused, TraverseRefused, PeelRefused, RepeatRefused}
use Rattle.gix_spec.specs.Call as calls
use Rattle.gix_spec.specs.Call.{Call, find_ref, prefix, kind, traverse, find, done}
use Rattle.gix_spec.specs.Tree.{fine, faulty, Tree, leaf, ask, takes}
use Rattle.gix_spec.specs.Context.{Context, HEAD, after_reference, after_prefix, next_revision}
use Rattle.gix_spec.specs.Pieces.{Piece, exclude, regex, index, head, name, branch, reflog, sibling, date, unescaped, step, peel, path, closer, without_parent, range, finish, finished, fault}

-- A call that has to be accepted. If it is refused, the parse ends with the fault f.
abbrev pub demand : Call → Fault → Option (List ℕ) → Tree → Tree
demand c f input onward = ask c onward (λ e. leaf (faulty f input (Some e) None))

-- The latest accepted name call, once more. If there is none, the parse ends with a fault.
abbrev pub repeat : Option Call → List ℕ → Tree → Tree
repeat None after onward = leaf (faulty Unconsumed (Some after) None None)
repeat (Some c) after onward = demand c RepeatRefused (Some after) onward

-- Something that asks about a ref. After an accepted prefix it is the fault f.
abbrev pub of_reference : (own_prefix : Bool) → Fault → (own : List ℕ) → Tree → Tree
of_reference true f own onward = leaf (faulty f (Some own) None None)
of_reference false f own onward = onward

-- The reflog entry at a time. If the text is not a date, the parse ends with a fault.
abbrev pub at_time : Option Time → (inner : List ℕ) → Tree → Tree
at_time None inner onward = leaf (faulty Date (Some inner) None None)
at_time (Some t) inner onward = demand (calls.reflog (AtDate t)) AtRefused (Some inner) onward

-- The calls for a name: first as a prefix, if it can be one. If it cannot, or that is refused, as a
-- ref. If both are refused, the fault NameRefused has both refusals.
abbrev pub attempts : (text whole : List ℕ) → Option (List ℕ × Option calls.Hint) → Context → (Context → Tree) → Tree
attempts text whole None m onward = demand (find_ref text) NameRefused (Some whole) (onward (after_reference m text))
attempts text whole (Some p) m onward =
    ask (prefix p.0 p.1) (onward (after_prefix m p.0 p.1))
    (λ e. ask (find_ref text) (onward (after_reference m text)) (λ d. leaf (faulty NameRefused (Some whole) (Some e) (Some d))))

-- The call for an entry of the reflog. After an accepted prefix it is the fault
-- `ReflogWithoutName`.
abbrev pub reflog_calls : ReflogLookup → (own inner : List ℕ) → (own_prefix : Bool) → Tree → Tree
reflog_calls query own inner own_prefix onward = of_reference own_prefix ReflogWithoutName own (demand (calls.reflog query) AtRefused (Some inner) onward)

-- The call for a sibling branch. After an accepted prefix it is the fault `SiblingWithoutName`.
abbrev pub sibling_calls : SiblingBranch → (own inner : List ℕ) → (own_prefix : Bool) → Tree → Tree
sibling_calls which own inner own_prefix onward = of_reference own_prefix SiblingWithoutName own (demand (calls.sibling which) AtRefused (Some inner) onward)

-- The call for the reflog entry at a time. After an accepted prefix it is the fault
-- `ReflogWithoutName`.
abbrev pub date_calls : Option Time → (own inner : List ℕ) → (own_prefix : Bool) → Tree → Tree
date_calls time own inner own_prefix onward = of_reference own_prefix ReflogWithoutName own (at_time time inner onward)

-- The calls for `^!` and `^@`: the kind, then done. Both have to be accepted.
abbrev pub closing_calls : Kind → (rest : List ℕ) → Tree → Tree
closing_calls k rest onward = demand (kind k) (KindRefused k) (Some rest) (demand done DoneRefusedInNavigation (Some rest) onward)

-- The calls for `^-n`: the step to parent n, the kind of a range, the anchor once more, then done.
-- All have to be accepted.
abbrev pub without_parent_calls : (number : ℕ) (after rest : List ℕ) → Option Call → Tree → Tree
without_parent_calls number after rest anchor onward =
    demand (traverse (NthParent number)) (TraverseRefused (NthParent number)) (Some after)
    (demand (kind RangeBetween) (KindRefused RangeBetween) (Some after)
    (repeat anchor after (demand done DoneRefusedInNavigation (Some rest) onward)))

-- The tree of the pieces, in the context m that earlier pieces left.
abbrev pub tree_of : List Piece → Context → Tree
tree_of [] m = leaf fine
tree_of (exclude ∷ ps) m = demand (kind ExcludeReachable) (KindRefused ExcludeReachable) None (tree_of ps m)
tree_of (regex wanted raw negated ∷ ps) m = demand (find wanted negated) FindRefused (Some raw) (tree_of ps m)
tree_of (index p stage ∷ ps) m = demand (calls.index p stage) (IndexRefused stage) (Some p) (tree_of ps m)
tree_of (head ∷ ps) m = demand (find_ref HEAD) HeadRefused None (tree_of ps (after_reference m HEAD))
tree_of (name text whole attempt ∷ ps) m = attempts text whole attempt m (λ n. tree_of ps n)
tree_of (branch number inner ∷ ps) m = demand (calls.branch number) AtRefused (Some inner) (tree_of ps m)
tree_of (reflog query own inner ∷ ps) m = reflog_calls query own inner m.own_prefix (tree_of ps m)
tree_of (sibling which own inner ∷ ps) m = sibling_calls which own inner m.own_prefix (tree_of ps m)
tree_of (date meaning own inner ∷ ps) m = date_calls (meaning m.now) own inner m.own_prefix (tree_of ps m)
tree_of (unescaped ∷ ps) m = takes (tree_of ps m)
tree_of (step t after ∷ ps) m = demand (traverse t) (TraverseRefused t) (Some after) (tree_of ps m)
tree_of (peel target after ∷ ps) m = demand (calls.peel target) PeelRefused (Some after) (tree_of ps m)
tree_of (path p ∷ ps) m = demand (calls.peel (calls.path p)) PeelRefused (Some p) (tree_of ps m)
tree_of (closer k rest ∷ ps) m = closing_calls k rest (tree_of ps m)
tree_of (without_parent number after rest ∷ ps) m = without_parent_calls number after rest m.anchor (tree_of ps m)
tree_of (range k ∷ ps) m = demand (kind k) (KindRefused k) None (tree_of ps (next_revision m))
tree_of (finish ∷ ps) m = demand done DoneRefused None (tree_of ps m)
tree_of (finished ∷ ps) m = tree_of ps m
tree_of (fault f input ∷ ps) m = leaf (faulty f input None None)

-- The piece takes memory: reading it removes escapes, for which the parser may allocate.
abbrev pub takes_one : Piece → Bool
takes_one unescaped = true
takes_one _ = false

-- One of the pieces takes memory.
abbrev pub takes_memory : List Piece → Bool
takes_memory [] = false
takes_memory (p ∷ ps) = takes_one p || takes_memory ps
