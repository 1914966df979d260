-- A content is the one of at most one commit, and of none if it has an error.
use Rattle.std.proofs.Common.{◌≡◌, ◌≢◌, ℕ, ℤ, pos, ◌<◌, ◌&&◌, List, ◌∷◌, length, drop, codes, nat_lt, Bool, true, false, refl, sym, ap, ◌∙◌, arith}
use Rattle.gix_base.specs.declared.hash.ObjectId.{ObjectId}
use Rattle.gix_object.specs.Lines.{begins, id_at}
use Rattle.gix_object.specs.CommitTime.{seconds_at}
use Rattle.gix_object.specs.CommitForm.{tree_of, is_parent, IsParent, AreParents, IsBroken, IsCommit, IsRefused}
use Rattle.gix_object.specs.CommitForm.AreParents.{none, one}
use Rattle.gix_object.specs.CommitForm.IsBroken.{here, later}
use Rattle.gix_object.specs.declared.commit.ParseError.{ParseError}
use Rattle.gix_object.specs.declared.commit.ParseError.TheVariants.{BadTree, BadParent, TimeOutOfRange, OutOfMemory}

both : (a b : Bool) → a ≡ true → b ≡ true → (a && b) ≡ true
both a b p q = ap (λ x. x && b) p ∙ q

less : (m n : ℕ) → m < n → nat_lt m n ≡ true
less m n h = search arith

-- Git reads the line of a parent as a parent line.
taken : (tree : ObjectId) (text : List ℕ) → IsParent tree text → is_parent text ≡ true
unfolding is_parent
taken tree text is =
    let more = is.line.more in
    both (nat_lt 47 (length text)) (begins (codes "parent ") text) (less 47 (length text) (omega (arith, more))) is.line.begins

never : {A : Type 0} (b : Bool) → b ≡ true → b ≡ false → A
never b t f = let wrong : true ≡ false = sym t ∙ f in cc

one-list : (tree : ObjectId) (text : List ℕ) (ids : List ObjectId) (rest : List ℕ) → AreParents tree text ids rest
    → (others : List ObjectId) (end : List ℕ) → AreParents tree text others end → (ids ≡ others) × (rest ≡ end)
one-list tree text ids rest (none t is) others end (none u is') = (refl, refl)
one-list tree text ids rest (none t is) others end (one u ids' rest' p next) = never (is_parent text) (taken tree text p) is
one-list tree text ids rest (one t ids' rest' p next) others end (none u is) = never (is_parent text) (taken tree text p) is
one-list tree text ids rest (one t more r p next) others end (one u more' r' p' next') =
    let same = one-list tree (drop 48 text) more r next more' r' next' in
    (ap (λ l. id_at text 7 ∷ l) same.0, same.1)

not-broken : (tree : ObjectId) (text : List ℕ) (ids : List ObjectId) (rest : List ℕ) → AreParents tree text ids rest → ¬ IsBroken tree text
not-broken tree text ids rest (none t is) (here u is' no') = never (is_parent text) is' is
not-broken tree text ids rest (none t is) (later u p b) = never (is_parent text) (taken tree text p) is
not-broken tree text ids rest (one t more r p next) (here u is no') = no' p
not-broken tree text ids rest (one t more r p next) (later u p' b) = not-broken tree (drop 48 text) more r next b

pub one-commit : (text : List ℕ) (parents others : List ObjectId) (time moment : ℤ) → IsCommit text parents time → IsCommit text others moment → (parents ≡ others) × (time ≡ moment)
one-commit text parents others time moment a b =
    let same = one-list (tree_of text) (drop 46 text) parents a.rest a.lines others b.rest b.lines in
    (same.0, a.seconds ∙ ap (λ r. pos (seconds_at r)) same.1 ∙ sym b.seconds)

pub no-commit : (text : List ℕ) (error : ParseError) (parents : List ObjectId) (time : ℤ) → error ≢ OutOfMemory → IsRefused text error → ¬ IsCommit text parents time
no-commit text BadTree parents time other wrong is = wrong is.tree
no-commit text BadParent parents time other wrong is = not-broken (tree_of text) (drop 46 text) parents is.rest is.lines wrong.1
no-commit text TimeOutOfRange parents time other wrong is =
    let same = one-list (tree_of text) (drop 46 text) wrong.1.0 wrong.1.1 wrong.1.2 parents is.rest is.lines in
    let great = wrong.1.3 in
    let small = is.small in
    let e : seconds_at wrong.1.1 ≡ seconds_at is.rest = ap seconds_at same.1 in
    absurd (omega (arith, great, small, e))
no-commit text OutOfMemory parents time other wrong is = other refl

pub one-error : (text : List ℕ) (error other : ParseError) → error ≢ OutOfMemory → other ≢ OutOfMemory → IsRefused text error → IsRefused text other → error ≡ other
one-error text BadTree BadTree a b p q = refl
one-error text BadTree BadParent a b p q = absurd (p q.0)
one-error text BadTree TimeOutOfRange a b p q = absurd (p q.0)
one-error text BadTree OutOfMemory a b p q = absurd (b refl)
one-error text BadParent BadTree a b p q = absurd (q p.0)
one-error text BadParent BadParent a b p q = refl
one-error text BadParent TimeOutOfRange a b p q = absurd (not-broken (tree_of text) (drop 46 text) q.1.0 q.1.1 q.1.2 p.1)
one-error text BadParent OutOfMemory a b p q = absurd (b refl)
one-error text TimeOutOfRange BadTree a b p q = absurd (q p.0)
one-error text TimeOutOfRange BadParent a b p q = absurd (not-broken (tree_of text) (drop 46 text) p.1.0 p.1.1 p.1.2 q.1)
one-error text TimeOutOfRange TimeOutOfRange a b p q = refl
one-error text TimeOutOfRange OutOfMemory a b p q = absurd (b refl)
one-error text OutOfMemory other a b p q = absurd (a refl)
