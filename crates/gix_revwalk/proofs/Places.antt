-- Places of ids in lists, and look-ups by places.
use Rattle.std.proofs.Common.{◌≡◌, ℕ, zero, suc, true, false, cond, refl, ap, sym, subst, ◌∙◌, List, [], ◌∷◌, ◌++◌, Option, Some, None, is_some, map, set, length, get_or, ◌<◌, arith}
use Rattle.std.specs.Option.{option_map}
use Rattle.std.proofs.lemmas.List.{length-map}
use Rattle.std.specs.List.{AllByRecursion, IsDistinct}
use Rattle.std.specs.Map.{lookup}
use Rattle.gix_base.specs.declared.hash.ObjectId.{ObjectId}
use Rattle.gix_revwalk.specs.History.{same_id}
use Rattle.gix_revwalk.specs.Numbers.{place_of, item_at}
use Rattle.gix_revwalk.proofs.Ids.{same_id-true, same_id-equal}

pub same_id-sym : (a b : ObjectId) → same_id a b ≡ same_id b a
same_id-sym a b =
    elim (same_id a b) as (λ x. same_id a b ≡ x → x ≡ same_id b a) [
      | true ↦ λ e. sym (same_id-equal b a (sym (same_id-true a b e)))
      | false ↦ λ e. elim (same_id b a) as (λ y. same_id b a ≡ y → false ≡ y) [
        | true ↦ λ f. let g : same_id a b ≡ true = same_id-equal a b (sym (same_id-true b a f)) in cc
        | false ↦ λ f. refl
      ] refl
    ] refl

absent : (o : Option ℕ) → option_map suc o ≡ None → o ≡ None
absent None e = refl
absent (Some k) e = cc

-- the item at a place
pub item_at-map : {X Y : Type 0} (f : X → Y) (xs : List X) (k : ℕ) → item_at (map f xs) k ≡ option_map f (item_at xs k)
item_at-map f [] k = refl
item_at-map f (x ∷ xs) zero = refl
item_at-map f (x ∷ xs) (suc k) = item_at-map f xs k

pub item_at-read : {X : Type 0} (xs : List X) (k : ℕ) (x : X) → k < length xs → x ≡ get_or xs k x → item_at xs k ≡ Some x
item_at-read [] k x lt e = absurd (omega arith)
item_at-read (y ∷ xs) zero x lt e = ap Some (sym e)
item_at-read (y ∷ xs) (suc k) x lt e = item_at-read xs k x (omega arith) e

pub item_at-within : {X : Type 0} (xs : List X) (k : ℕ) (x : X) → item_at xs k ≡ Some x → k < length xs
item_at-within [] k x e = cc
item_at-within (y ∷ xs) zero x e = omega arith
item_at-within (y ∷ xs) (suc k) x e = let lt = item_at-within xs k x e in omega arith

pub item_at-grown : {X : Type 0} (xs ys : List X) (k : ℕ) (x : X) → item_at xs k ≡ Some x → item_at (xs ++ ys) k ≡ Some x
item_at-grown [] ys k x e = cc
item_at-grown (y ∷ xs) ys zero x e = e
item_at-grown (y ∷ xs) ys (suc k) x e = item_at-grown xs ys k x e

-- what holds of each item
pub each-at : {X : Type 0} (P : X → Type 0) (xs : List X) (k : ℕ) (x : X) → AllByRecursion P xs → item_at xs k ≡ Some x → P x
each-at P [] k x all e = cc
each-at P (y ∷ xs) zero x all e = let same : y ≡ x = cc in subst P same all.0
each-at P (y ∷ xs) (suc k) x all e = each-at P xs k x all.1 e

pub each-set : {X : Type 0} (P : X → Type 0) (xs : List X) (k : ℕ) (w : X) → AllByRecursion P xs → P w → AllByRecursion P (set xs k w)
each-set P [] k w all p = tt
each-set P (y ∷ xs) zero w all p = (p, all.1)
each-set P (y ∷ xs) (suc k) w all p = (all.0, each-set P xs k w all.1 p)

pub each-push : {X : Type 0} (P : X → Type 0) (xs : List X) (w : X) → AllByRecursion P xs → P w → AllByRecursion P (xs ++ w ∷ [])
each-push P [] w all p = (p, tt)
each-push P (y ∷ xs) w all p = (all.0, each-push P xs w all.1 p)

pub each-map : {X : Type 0} (P Q : X → Type 0) (f : (x : X) → P x → Q x) (xs : List X) → AllByRecursion P xs → AllByRecursion Q xs
each-map P Q f [] all = tt
each-map P Q f (y ∷ xs) all = (f y all.0, each-map P Q f xs all.1)

-- each id stands once
pub distinct-push : (ids : List ObjectId) (x : ObjectId) → place_of ids x ≡ None → IsDistinct same_id ids → IsDistinct same_id (ids ++ x ∷ [])
unfolding IsDistinct
distinct-push [] x new apart = (tt, tt)
distinct-push (y ∷ ids) x new apart =
    elim (same_id x y) as (λ b. same_id x y ≡ b → cond b (Some 0) (option_map suc (place_of ids x)) ≡ None → IsDistinct same_id (y ∷ (ids ++ x ∷ []))) [
      | true ↦ λ _ is. cc
      | false ↦ λ other is. (each-push (λ z. same_id y z ≡ false) ids x apart.0 (same_id-sym y x ∙ other), distinct-push ids x (absent (place_of ids x) is) apart.1)
    ] refl new

pub place-once : (ids : List ObjectId) → IsDistinct same_id ids → (k : ℕ) (id : ObjectId) → item_at ids k ≡ Some id → place_of ids id ≡ Some k
unfolding IsDistinct
place-once [] apart k id e = cc
place-once (x ∷ ids) apart zero id e = let same : x ≡ id = cc in rw (same_id-equal id x (sym same)) refl
place-once (x ∷ ids) apart (suc k) id e =
    let other : same_id id x ≡ false = same_id-sym id x ∙ each-at (λ z. same_id x z ≡ false) ids k id apart.0 e in
    rw (other, place-once ids apart.1 k id e) refl

-- The item at the place of an id is that id.
pub place-item : (xs : List ObjectId) (q : ObjectId) (k : ℕ) → place_of xs q ≡ Some k → item_at xs k ≡ Some q
place-item [] q k e = cc
place-item (x ∷ xs) q k e =
    elim (same_id q x) as (λ b. same_id q x ≡ b → cond b (Some 0) (option_map suc (place_of xs q)) ≡ Some k → item_at (x ∷ xs) k ≡ Some q) [
      | true ↦ λ same is. let z : 0 ≡ k = cc in subst (λ j. item_at (x ∷ xs) j ≡ Some q) z (ap Some (sym (same_id-true q x same)))
      | false ↦ λ same is. elim (place_of xs q) as (λ o. place_of xs q ≡ o → option_map suc o ≡ Some k → item_at (x ∷ xs) k ≡ Some q) [
        | None ↦ λ at no. cc
        | Some j ↦ λ at is. let z : suc j ≡ k = cc in subst (λ i. item_at (x ∷ xs) i ≡ Some q) z (place-item xs q j at)
      ] refl is
    ] refl e

-- The item at the place of an id.
abbrev pub under : {Y : Type 0} → List (ObjectId × Y) → Option ℕ → Option Y
under es None = None
under es (Some k) = option_map (λ e. e.1) (item_at es k)

under-next : {Y : Type 0} (e : ObjectId × Y) (es : List (ObjectId × Y)) (o : Option ℕ) → under (e ∷ es) (option_map suc o) ≡ under es o
under-next e es None = refl
under-next e es (Some k) = refl

pub lookup-place : {Y : Type 0} (es : List (ObjectId × Y)) (q : ObjectId) → lookup (same_id q) es ≡ under es (place_of (map (λ e. e.0) es) q)
lookup-place [] q = refl
lookup-place {Y} (e ∷ es) q =
    elim (same_id q e.0) as (λ b. cond b (Some e.1) (lookup (same_id q) es) ≡ under (e ∷ es) (cond b (Some 0) (option_map suc (place_of (map (λ (e : ObjectId × Y). e.0) es) q)))) [
      | true ↦ refl
      | false ↦ lookup-place es q ∙ sym (under-next e es _)
    ]

-- An id is held if it has a place.
pub lookup-has : {Y : Type 0} (es : List (ObjectId × Y)) (q : ObjectId) → is_some (lookup (same_id q) es) ≡ is_some (place_of (map (λ e. e.0) es) q)
lookup-has [] q = refl
lookup-has {Y} (e ∷ es) q =
    elim (same_id q e.0) as (λ b. is_some (cond b (Some e.1) (lookup (same_id q) es)) ≡ is_some (cond b (Some 0) (option_map suc (place_of (map (λ (e : ObjectId × Y). e.0) es) q)))) [
      | true ↦ refl
      | false ↦ lookup-has es q ∙ later (place_of (map (λ e. e.0) es) q)
    ]
  where
    later : (o : Option ℕ) → is_some o ≡ is_some (option_map suc o)
    later None = refl
    later (Some k) = refl

-- one more id
pub place-push : (xs : List ObjectId) (x q : ObjectId) → place_of xs x ≡ None → place_of (xs ++ x ∷ []) q ≡ cond (same_id x q) (Some (length xs)) (place_of xs q)
place-push [] x q e = ap (λ b. cond b (Some 0) None) (same_id-sym q x)
place-push (y ∷ xs) x q e =
    elim (same_id x y) as (λ b. same_id x y ≡ b → cond b (Some 0) (option_map suc (place_of xs x)) ≡ None → place_of (y ∷ (xs ++ x ∷ [])) q ≡ cond (same_id x q) (Some (suc (length xs))) (place_of (y ∷ xs) q)) [
      | true ↦ λ same is. cc
      | false ↦ λ apart is.
          let rest = place-push xs x q (absent (place_of xs x) is) in
          elim (same_id q y) as (λ b. same_id q y ≡ b → cond b (Some 0) (option_map suc (place_of (xs ++ x ∷ []) q)) ≡ cond (same_id x q) (Some (suc (length xs))) (cond b (Some 0) (option_map suc (place_of xs q)))) [
            | true ↦ λ at.
                let other : same_id x q ≡ false = ap (same_id x) (same_id-true q y at) ∙ apart in
                rw other refl
            | false ↦ λ at. ap (option_map suc) rest ∙ swap (same_id x q) (place_of xs q)
          ] refl
    ] refl e
  where
    swap : (b : _) (o : Option ℕ) → option_map suc (cond b (Some (length xs)) o) ≡ cond b (Some (suc (length xs))) (option_map suc o)
    swap true o = refl
    swap false o = refl

pub lookup-push : {Y : Type 0} (es : List (ObjectId × Y)) (x q : ObjectId) (w : Y) → place_of (map (λ e. e.0) es) x ≡ None
    → lookup (same_id q) (es ++ (x, w) ∷ []) ≡ cond (same_id x q) (Some w) (lookup (same_id q) es)
lookup-push [] x q w e = ap (λ b. cond b (Some w) None) (same_id-sym q x)
lookup-push {Y} (y ∷ es) x q w e =
    elim (same_id x y.0) as (λ b. same_id x y.0 ≡ b → cond b (Some 0) (option_map suc (place_of (map (λ (e : ObjectId × Y). e.0) es) x)) ≡ None → lookup (same_id q) (y ∷ (es ++ (x, w) ∷ [])) ≡ cond (same_id x q) (Some w) (lookup (same_id q) (y ∷ es))) [
      | true ↦ λ same is. cc
      | false ↦ λ apart is.
          let rest = lookup-push es x q w (absent (place_of (map (λ e. e.0) es) x) is) in
          elim (same_id q y.0) as (λ b. same_id q y.0 ≡ b → cond b (Some y.1) (lookup (same_id q) (es ++ (x, w) ∷ [])) ≡ cond (same_id x q) (Some w) (cond b (Some y.1) (lookup (same_id q) es))) [
            | true ↦ λ at.
                let other : same_id x q ≡ false = ap (same_id x) (same_id-true q y.0 at) ∙ apart in
                rw other refl
            | false ↦ λ at. rest
          ] refl
    ] refl e

-- Another value at the place of an id.
pub lookup-set : {Y : Type 0} (es : List (ObjectId × Y)) (k : ℕ) (id : ObjectId) (w : Y) → place_of (map (λ e. e.0) es) id ≡ Some k
    → (q : ObjectId) → lookup (same_id q) (set es k (id, w)) ≡ cond (same_id id q) (Some w) (lookup (same_id q) es)
lookup-set [] k id w e q = cc
lookup-set {Y} (y ∷ es) k id w e q =
    elim (same_id id y.0) as (λ b. same_id id y.0 ≡ b → cond b (Some 0) (option_map suc (place_of (map (λ (e : ObjectId × Y). e.0) es) id)) ≡ Some k → lookup (same_id q) (set (y ∷ es) k (id, w)) ≡ cond (same_id id q) (Some w) (lookup (same_id q) (y ∷ es))) [
      | true ↦ λ same is.
          let z : 0 ≡ k = cc in
          subst (λ j. lookup (same_id q) (set (y ∷ es) j (id, w)) ≡ cond (same_id id q) (Some w) (lookup (same_id q) (y ∷ es))) z
          (rw (same_id-sym q id) (elim (same_id id q) as (λ c. same_id id q ≡ c → cond c (Some w) (lookup (same_id q) es) ≡ cond c (Some w) (cond (same_id q y.0) (Some y.1) (lookup (same_id q) es))) [
            | true ↦ λ _. refl
            | false ↦ λ not.
                let other : same_id q y.0 ≡ false = ap (same_id q) (sym (same_id-true id y.0 same)) ∙ same_id-sym q id ∙ not in
                rw other refl
          ] refl))
      | false ↦ λ apart is. elim (place_of (map (λ e. e.0) es) id) as (λ o. place_of (map (λ (e : ObjectId × Y). e.0) es) id ≡ o → option_map suc o ≡ Some k → lookup (same_id q) (set (y ∷ es) k (id, w)) ≡ cond (same_id id q) (Some w) (lookup (same_id q) (y ∷ es))) [
        | None ↦ λ at no. cc
        | Some j ↦ λ at is.
            let z : suc j ≡ k = cc in
            subst (λ i. lookup (same_id q) (set (y ∷ es) i (id, w)) ≡ cond (same_id id q) (Some w) (lookup (same_id q) (y ∷ es))) z
            (elim (same_id q y.0) as (λ c. same_id q y.0 ≡ c → cond c (Some y.1) (lookup (same_id q) (set es j (id, w))) ≡ cond (same_id id q) (Some w) (cond c (Some y.1) (lookup (same_id q) es))) [
              | true ↦ λ here.
                  let other : same_id id q ≡ false = ap (same_id id) (same_id-true q y.0 here) ∙ apart in
                  rw other refl
              | false ↦ λ _. lookup-set es j id w at q
            ] refl)
      ] refl is
    ] refl e

-- The ids are unchanged if a value changes.
pub ids-set : {Y : Type 0} (es : List (ObjectId × Y)) (k : ℕ) (id : ObjectId) (w : Y) → item_at (map (λ e. e.0) es) k ≡ Some id → map (λ e. e.0) (set es k (id, w)) ≡ map (λ e. e.0) es
ids-set [] k id w e = cc
ids-set {Y} (y ∷ es) zero id w e = let same : y.0 ≡ id = cc in ap (λ i. i ∷ map (λ (e : ObjectId × Y). e.0) es) (sym same)
ids-set (y ∷ es) (suc k) id w e = ap (λ l. y.0 ∷ l) (ids-set es k id w e)

pub number-within : {Y : Type 0} (es : List (ObjectId × Y)) (q : ObjectId) (k : ℕ) → place_of (map (λ e. e.0) es) q ≡ Some k → k < length es
number-within es q k e =
    let lt = item_at-within (map (λ e. e.0) es) k q (place-item (map (λ e. e.0) es) q k e) in
    let same = length-map es (λ (e : _). e.0) in
    omega (arith, lt, same)

pub lookup-at : {Y : Type 0} (es : List (ObjectId × Y)) (q : ObjectId) (k : ℕ) → Some k ≡ place_of (map (λ e. e.0) es) q → lookup (same_id q) es ≡ option_map (λ e. e.1) (item_at es k)
lookup-at es q k e = lookup-place es q ∙ ap (under es) (sym e)

pub lookup-none : {Y : Type 0} (es : List (ObjectId × Y)) (q : ObjectId) → None ≡ place_of (map (λ e. e.0) es) q → lookup (same_id q) es ≡ None
lookup-none es q e = lookup-place es q ∙ ap (under es) (sym e)
