-- After each step, a walk has marked exactly what it has listed.
use Rattle.std.proofs.Common.{◌≡◌, ℕ, true, false, cond, refl, ap, sym, subst, ◌∙◌, List, [], ◌∷◌, ◌++◌, ◌||◌, ◌<◌, length, map, get_or, is_some, Option, Some, IsTrue, Bool, arith}
use Rattle.gix_base.specs.declared.hash.ObjectId.{ObjectId}
use Rattle.gix_revwalk.specs.History.{is_one_of, same_id}
use Rattle.gix_revwalk.specs.Graph.{Graphed, held_len, held_ids}
use Rattle.gix_revwalk.specs.Data.{Marks, mark_at}
use Rattle.gix_revwalk.specs.Number.{place_in}
use Rattle.gix_revwalk.specs.Numbers.{Grows}
use Rattle.gix_revwalk.specs.declared.graph.commit.Commit.{Commit}
use Rattle.gix_revwalk.specs.declared.numbers.Mark.{Mark}
use Rattle.gix_revwalk.specs.declared.numbers.Number.{Number}
use Rattle.std.proofs.lemmas.List.Folds.{list_any-append}
use Rattle.gix_revwalk.proofs.Ids.{same_id-true}
use Rattle.gix_revwalk.proofs.Places.{same_id-sym}
use Rattle.gix_revwalk.proofs.Members.{one_of-right, one_of-head, or_none}
use Rattle.gix_merge_base.specs.Front.{KeepsNumbers}
use Rattle.gix_merge_base.specs.PaintQueue.{id_at, ids_at, AreIn}
use Rattle.gix_resolve.specs.ListWalk.{AreMarked}
use Rattle.gix_merge_base.proofs.Numbered.{named-id, same-len}
use Rattle.gix_merge_base.proofs.Listed.{listed-grown, listed-same, listed-push, in-item}

-- the marks that a walk has given say which ids it has listed
pub listed-mark : {S D A : Type 0} (g : Graphed S (Commit D A)) (ns : List Number) (k : ℕ) (o : Option (Mark D)) → AreMarked g ns → o ≡ mark_at g (id_at g k) → is_some o ≡ is_one_of (ids_at g ns) (id_at g k)
listed-mark g ns k o at is = ap is_some is ∙ at.marks (id_at g k)

-- the members of a list with one more id
pushed : (xs : List ObjectId) (id q : ObjectId) (b : Bool) → b ≡ is_one_of xs q → cond (same_id id q) true b ≡ is_one_of (xs ++ id ∷ []) q
pushed xs id q b is = elim (same_id id q) as (λ t. same_id id q ≡ t → cond t true b ≡ is_one_of (xs ++ id ∷ []) q) [
  | true ↦ λ e. sym (one_of-right xs (id ∷ []) q (subst (λ z. IsTrue (is_one_of (id ∷ []) z)) (same_id-true id q e) (one_of-head id [])))
  | false ↦ λ e. is ∙ sym (list_any-append (same_id q) xs (id ∷ []) ∙ ap (λ t. is_one_of xs q || (t || false)) (same_id-sym q id ∙ e) ∙ or_none (is_one_of xs q))
] refl

-- a commit gets a mark, and its number comes to the end
pub marked-push : {S D A : Type 0} (m n : Graphed S (Commit D A)) (ns : List Number) (x : Number) (w : Mark D) → place_in x < held_len m → AreMarked m ns → Marks m (place_in x) w n
    → AreMarked n (ns ++ x ∷ []) × (ids_at n (ns ++ x ∷ []) ≡ ids_at m ns ++ id_at m (place_in x) ∷ [])
marked-push {S} {D} {A} m n ns x w lt at given =
    let id = id_at m (place_in x) in
    let more = listed-push m ns x id at.inside lt refl in
    let same = listed-same m n given.ids (ns ++ x ∷ []) more.0 in
    let ids : ids_at n (ns ++ x ∷ []) ≡ ids_at m ns ++ id ∷ [] = same.1 ∙ more.1 in
    (record { inside = same.0; marks = λ q. marks q ∙ ap (λ l. is_one_of l q) (sym ids) }, ids)
  where
    here : (q : ObjectId) → is_some (mark_at n q) ≡ cond (same_id (id_at m (place_in x)) q) true (is_some (mark_at m q))
    here q = ap is_some (given.marks (id_at m (place_in x)) (named-id m (place_in x) lt) q)
        ∙ elim (same_id (id_at m (place_in x)) q) as (λ b. is_some (cond b (Some w) (mark_at m q)) ≡ cond b true (is_some (mark_at m q))) [ true ↦ refl | false ↦ refl ]

    marks : (q : ObjectId) → is_some (mark_at n q) ≡ is_one_of (ids_at m ns ++ id_at m (place_in x) ∷ []) q
    marks q = here q ∙ pushed (ids_at m ns) (id_at m (place_in x)) q (is_some (mark_at m q)) (at.marks q)

-- the list stays right if the graph holds more commits that no walk has marked
pub marked-grown : {S D A : Type 0} (m n : Graphed S (Commit D A)) (ns : List Number) → Grows m n → ((q : ObjectId) → mark_at n q ≡ mark_at m q) → AreMarked m ns
    → AreMarked n ns × (ids_at n ns ≡ ids_at m ns)
marked-grown m n ns grows same at =
    let grown = listed-grown m n grows ns at.inside in
    (record { inside = grown.0; marks = λ q. ap is_some (same q) ∙ at.marks q ∙ ap (λ l. is_one_of l q) (sym grown.1) }, grown.1)

-- numbers keep their commits and ids if the graph holds more
pub numbers-kept : {S T : Type 0} (a b c : Graphed S T) → Grows a b → held_ids c ≡ held_ids b → KeepsNumbers a c
numbers-kept a b c grows same = λ ns all.
    let first = listed-grown a b grows ns all in
    let next = listed-same b c same ns first.0 in
    (next.0, next.1 ∙ first.1)

-- two calls that keep numbers, one after the other
pub numbers-then : {S T : Type 0} (a b c : Graphed S T) → KeepsNumbers a b → KeepsNumbers b c → KeepsNumbers a c
numbers-then a b c p q = λ ns all. let first = p ns all in let next = q ns first.0 in (next.0, next.1 ∙ first.1)

-- a call after which the graph holds the same
pub numbers-held : {S T : Type 0} (m n : Graphed S T) → n.held ≡ m.held → KeepsNumbers m n
numbers-held m n e = listed-same m n (ap (map (λ x. x.0)) e)

-- numbers of a list stay numbers of the graph if it holds the same ids
pub in-loop : {S T : Type 0} (m n : Graphed S T) → held_ids n ≡ held_ids m → (ns : List Number) (i : ℕ) (d : Number) → AreIn m ns → i < length ns → place_in (get_or ns i d) < held_len n
in-loop m n e ns i d all lt = let within = in-item m ns i d all lt in let len = same-len m n e in omega arith
