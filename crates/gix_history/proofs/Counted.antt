-- All that some commits reach is read.
use Rattle.std.proofs.Common.{◌≡◌, inl, inr, ℕ, suc, zero, ◌+◌, ◌≤◌, [], ◌∷◌, ◌++◌, List, Option, Some, None, is_some, cond, true, false, IsTrue, refl, sym, ap, ◌∙◌, subst, take, length, arith, IfSome}
use Rattle.std.proofs.lemmas.List.{length-append, take_all, take-append-le}
use Rattle.std.proofs.lemmas.Map.Keys.{IsDistinct-push}
use Rattle.gix_base.specs.declared.hash.ObjectId.{ObjectId}
use Rattle.gix_revwalk.specs.History.{History, Entry, Has, IsEdge, IsAncestor, IsAncestorOfOne, entry_at, same_id, is_one_of, parents_in}
use Rattle.gix_revwalk.specs.History.IsAncestor.{itself, further}
use Rattle.gix_revwalk.specs.Numbers.{item_at}
use Rattle.gix_revwalk.specs.Sizes.{HasSize}
use Rattle.gix_revwalk.proofs.Growth.{one_of-item, take-item}
use Rattle.gix_revwalk.proofs.Ids.{same_id-true, same_id-itself, same_id-laws}
use Rattle.gix_revwalk.proofs.Inserted.{entry-stays}
use Rattle.gix_revwalk.proofs.Members.{one_of-left, one_of-right, one_of-cases, one_of-head, one_of-single, nothing}
use Rattle.gix_commitgraph.proofs.Joins.{first-has}
use Rattle.gix_history.specs.Levels.{Keeps}
use Rattle.gix_history.specs.Whole.{IsLed, IsListed, Reads}
use Rattle.gix_history.proofs.Grown.{by-id}

has-not : {A : Type 0} (o : Option Entry) → IsTrue (is_some o) → o ≡ None → A
has-not o has none = let wrong : true ≡ false = sym has ∙ ap is_some none in cc

-- Before anything is read, the list has the tips.
pub listed-first : (tips : List ObjectId) (h : History) → ((id : ObjectId) → entry_at h id ≡ None) → IsListed tips h tips 0 0
listed-first tips h none = record {
  begins = λ c m. m;
  named = λ c has. has-not (entry_at h c) has (none c);
  closed = λ a c m. let wrong : false ≡ true = ap (λ o. is_one_of (parents_in o) c) (sym (none a)) ∙ m in cc;
  read = λ c m. let wrong : false ≡ true = m in cc;
  led = λ c m more keeps has. (c, m, itself has);
  size = ([], (nothing, λ c. ((λ m. let wrong : false ≡ true = m in cc), (λ has. has-not (entry_at h c) has (none c)))), refl);
}

-- One more place is read.
read-next : (h : History) (list : List ObjectId) (place : ℕ) (k : ObjectId) → item_at list place ≡ Some k → Has h k
    → ((c : ObjectId) → IsTrue (is_one_of (take place list) c) → Has h c) → (c : ObjectId) → IsTrue (is_one_of (take (place + 1) list) c) → Has h c
read-next h list place k at has read c m =
    elim (one_of-cases (take place list) (k ∷ []) c (ap (λ l. is_one_of l c) (sym (take-item list place k at)) ∙ m)) as (λ _. Has h c) [
      | inl l ↦ read c l
      | inr r ↦ subst (λ z. Has h z) (sym (one_of-single k c r)) has
    ]

pub listed-passed : (tips : List ObjectId) (h : History) (list : List ObjectId) (place count : ℕ) (k : ObjectId)
    → IsListed tips h list place count → item_at list place ≡ Some k → Has h k → IsListed tips h list (place + 1) count
listed-passed tips h list place count k is at has = record {
  begins = is.begins;
  named = is.named;
  closed = is.closed;
  read = read-next h list place k at has is.read;
  led = is.led;
  size = is.size;
}

led-more : (tips : List ObjectId) (h n : History) (c : ObjectId) → Keeps h n → IsLed tips h c → IsLed tips n c
led-more tips h n c keeps led = λ more kept has. led more (λ q there. kept q (ap is_some (keeps q there) ∙ there) ∙ keeps q there) has

-- Where tips lead to the commit k, they lead to its parents.
led-parent : (tips : List ObjectId) (n : History) (k : ObjectId) (d : Entry) → entry_at n k ≡ Some d → IsLed tips n k
    → (c : ObjectId) → IsTrue (is_one_of d.parents c) → IsLed tips n c
led-parent tips n k d at led c parent = λ more keeps has.
    let stays : entry_at more k ≡ Some d = keeps k (ap is_some at) ∙ at in
    let up = led more keeps (ap is_some stays) in
    let edge : IsEdge more k c = (ap (λ o. is_one_of (parents_in o) c) stays ∙ parent, has) in
    (up.0, up.1, further k c up.2 edge)

item-within : (list : List ObjectId) (place : ℕ) (k : ObjectId) → item_at list place ≡ Some k → place + 1 ≤ length list
item-within [] place k e = cc
item-within (x ∷ list) zero k e = omega arith
item-within (x ∷ list) (suc place) k e = let more = item-within list place k e in omega arith

past-end : (list : List ObjectId) (place : ℕ) → item_at list place ≡ None → length list ≤ place
past-end [] place e = omega arith
past-end (x ∷ list) zero e = cc
past-end (x ∷ list) (suc place) e = let more = past-end list place e in omega arith

module _ (tips : List ObjectId) (h : History) (list : List ObjectId) (place count : ℕ) (k : ObjectId) (n : History) (longer : List ObjectId)
    (is : IsListed tips h list place count) (at : item_at list place ≡ Some k) (lacks : entry_at h k ≡ None) (reads : Reads h list k n longer) where
  keeps : Keeps h n
  keeps = λ q has. entry-stays h n k reads.commit lacks reads.put q has

  here : entry_at n k ≡ Some reads.commit
  here = reads.put k ∙ ap (λ b. cond b (Some reads.commit) (entry_at h k)) (same_id-itself k)

  apart : (q : ObjectId) → same_id k q ≡ false → entry_at n q ≡ entry_at h q
  apart q off = reads.put q ∙ ap (λ b. cond b (Some reads.commit) (entry_at h q)) off

  old : (c : ObjectId) → IsTrue (is_one_of list c) → IsTrue (is_one_of longer c)
  old c m = ap (λ l. is_one_of l c) reads.listed ∙ one_of-left list reads.commit.parents c m

  new : (c : ObjectId) → IsTrue (is_one_of reads.commit.parents c) → IsTrue (is_one_of longer c)
  new c m = ap (λ l. is_one_of l c) reads.listed ∙ one_of-right list reads.commit.parents c m

  itself-listed : IsTrue (is_one_of list k)
  itself-listed = one_of-item list place k at

  named : (c : ObjectId) → Has n c → IsTrue (is_one_of longer c)
  named c has =
      by-id k (λ z. Has n z → IsTrue (is_one_of longer z)) c
      (λ on there. old c (subst (λ z. IsTrue (is_one_of list z)) (same_id-true k c on) itself-listed))
      (λ off there. old c (is.named c (ap is_some (sym (apart c off)) ∙ there)))
      has

  closed : (a c : ObjectId) → IsTrue (is_one_of (parents_in (entry_at n a)) c) → IsTrue (is_one_of longer c)
  closed a c m =
      by-id k (λ z. IsTrue (is_one_of (parents_in (entry_at n z)) c) → IsTrue (is_one_of longer c)) a
      (λ on there. new c (ap (λ o. is_one_of (parents_in o) c) (sym here) ∙ ap (λ z. is_one_of (parents_in (entry_at n z)) c) (same_id-true k a on) ∙ there))
      (λ off there. old c (is.closed a c (ap (λ o. is_one_of (parents_in o) c) (sym (apart a off)) ∙ there)))
      m

  same-front : take (place + 1) longer ≡ take (place + 1) list
  same-front = ap (take (place + 1)) reads.listed ∙ take-append-le (place + 1) list reads.commit.parents (item-within list place k at)

  read : (c : ObjectId) → IsTrue (is_one_of (take (place + 1) longer) c) → Has n c
  read c m =
      read-next n list place k at (ap is_some here)
      (λ q before. let there = is.read q before in ap is_some (keeps q there) ∙ there)
      c (ap (λ l. is_one_of l c) (sym same-front) ∙ m)

  led : (c : ObjectId) → IsTrue (is_one_of longer c) → IsLed tips n c
  led c m =
      elim (one_of-cases list reads.commit.parents c (ap (λ l. is_one_of l c) (sym reads.listed) ∙ m)) as (λ _. IsLed tips n c) [
        | inl l ↦ led-more tips h n c keeps (is.led c l)
        | inr r ↦ led-parent tips n k reads.commit here (led-more tips h n k keeps (is.led k itself-listed)) c r
      ]

  not-yet : is_one_of is.size.0 k ≡ false
  not-yet = elim (is_one_of is.size.0 k) as (λ b. is_one_of is.size.0 k ≡ b → b ≡ false) [
    | true ↦ λ e. has-not (entry_at h k) ((is.size.1.1 k).0 e) lacks
    | false ↦ λ e. refl
  ] refl

  there : (c : ObjectId) → IsTrue (is_one_of (is.size.0 ++ k ∷ []) c) → Has n c
  there c m =
      elim (one_of-cases is.size.0 (k ∷ []) c m) as (λ _. Has n c) [
        | inl l ↦ let had = (is.size.1.1 c).0 l in ap is_some (keeps c had) ∙ had
        | inr r ↦ subst (λ z. Has n z) (sym (one_of-single k c r)) (ap is_some here)
      ]

  back : (c : ObjectId) → Has n c → IsTrue (is_one_of (is.size.0 ++ k ∷ []) c)
  back c has =
      by-id k (λ z. Has n z → IsTrue (is_one_of (is.size.0 ++ k ∷ []) z)) c
      (λ on has. subst (λ z. IsTrue (is_one_of (is.size.0 ++ k ∷ []) z)) (same_id-true k c on) (one_of-right is.size.0 (k ∷ []) k (one_of-head k [])))
      (λ off has. one_of-left is.size.0 (k ∷ []) c ((is.size.1.1 c).1 (ap is_some (sym (apart c off)) ∙ has)))
      has

  size : HasSize (Has n) (count + 1)
  size = (
    is.size.0 ++ k ∷ [],
    (IsDistinct-push same_id-laws is.size.0 k is.size.1.0 not-yet, λ c. (there c, back c)),
    let len = length-append is.size.0 (k ∷ []) in let one = is.size.2 in omega arith,
  )

  pub listed-read : IsListed tips n longer (place + 1) (count + 1)
  listed-read = record {
    begins = λ c m. old c (is.begins c m);
    named = named;
    closed = closed;
    read = read;
    led = led;
    size = size;
  }

module _ (tips : List ObjectId) (h : History) (list : List ObjectId) (place count : ℕ) (is : IsListed tips h list place count) (done : item_at list place ≡ None) (k : History) where
  each : (c : ObjectId) → IsTrue (is_one_of list c) → Has h c
  each c m = is.read c (ap (λ l. is_one_of l c) (take_all place list (past-end list place done)) ∙ m)

  reached : (c : ObjectId) → Has h c → IsAncestorOfOne (h ++ k) tips c
  reached c has = is.led c (is.named c has) (h ++ k) (λ q there. first-has h k q there) (ap is_some (first-has h k c has) ∙ has)

  within : (o c : ObjectId) → Has h o → IsAncestor (h ++ k) o c → Has h c
  within o c has (itself all) = has
  within o c has (further b c' p e) =
      let before = within o b has p in
      each c (is.closed b c (ap (λ x. is_one_of (parents_in x) c) (sym (first-has h k b before)) ∙ e.0))

  pub listed-whole : HasSize (IsAncestorOfOne (h ++ k) tips) count
  listed-whole = (
    is.size.0,
    (is.size.1.0, λ c. ((λ m. reached c ((is.size.1.1 c).0 m)), (λ up. (is.size.1.1 c).1 (within up.0 c (each up.0 (is.begins up.0 up.1)) up.2)))),
    is.size.2,
  )

-- One more commit is read, if there is a next number.
pub listed-next : (tips : List ObjectId) (h : History) (list : List ObjectId) (place count : ℕ) (k : ObjectId) (n : History) (longer : List ObjectId) (next : Option ℕ)
    → IsListed tips h list place count → item_at list place ≡ Some k → entry_at h k ≡ None → Reads h list k n longer
    → IfSome next (λ more. more ≡ count + 1) → IfSome next (λ more. IsListed tips n longer (place + 1) more)
listed-next tips h list place count k n longer None is at lacks reads so = tt
listed-next tips h list place count k n longer (Some more) is at lacks reads so =
    subst (λ m. IsListed tips n longer (place + 1) m) (sym so) (listed-read tips h list place count k n longer is at lacks reads)
