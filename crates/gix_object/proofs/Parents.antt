-- The lines of the parents.
use Rattle.std.proofs.Common.{◌≡◌, ℕ, List, [], ◌∷◌, ◌++◌, drop, sym, ap, ◌∙◌, subst, append_assoc}
use Rattle.gix_base.specs.declared.hash.ObjectId.{ObjectId}
use Rattle.gix_object.specs.Lines.{id_at}
use Rattle.gix_object.specs.CommitForm.{HasTree, tree_of, IsParent, AreParents, IsBroken, IsUnread, IsRefused}
use Rattle.gix_object.specs.CommitForm.AreParents.{one}
use Rattle.gix_object.specs.CommitForm.IsBroken.{later}
use Rattle.gix_object.specs.declared.commit.ParseError.{ParseError}
use Rattle.gix_object.specs.declared.commit.ParseError.TheVariants.{BadTree, BadParent, TimeOutOfRange, OutOfMemory}

module _ (tree : ObjectId) (text rest next : List ℕ) (ids items : List ObjectId) (id : ObjectId)
    (is : IsParent tree rest) (named : id ≡ id_at rest 7) (added : items ≡ ids ++ id ∷ []) (after : next ≡ drop 48 rest) where
  -- One more parent is read after the others.
  pub one_more : ((more : List ObjectId) (end : List ℕ) → AreParents tree rest more end → AreParents tree text (ids ++ more) end)
      → (more : List ObjectId) (end : List ℕ) → AreParents tree next more end → AreParents tree text (items ++ more) end
  one_more read more end then =
      let P : List ObjectId → Type 0 = λ all. AreParents tree text all end in
      let Q : List ℕ → Type 0 = λ t. AreParents tree t more end in
      let same : ids ++ (id_at rest 7 ∷ more) ≡ items ++ more =
      ap (λ i. ids ++ (i ∷ more)) (sym named) ∙ sym (append_assoc ids (id ∷ []) more) ∙ ap (λ a. a ++ more) (sym added) in
      subst P same (read (id_at rest 7 ∷ more) end (one rest more end is (subst Q after then)))

  -- A line further on is malformed.
  pub broken_later : (IsBroken tree rest → IsBroken tree text) → IsBroken tree next → IsBroken tree text
  broken_later broken b = let Q : List ℕ → Type 0 = λ t. IsBroken tree t in broken (later rest is (subst Q after b))

-- The parents that are read after the line of the tree are those of the commit.
pub read_at : (text : List ℕ) (tree : ObjectId) (after : List ℕ) → tree ≡ tree_of text → after ≡ drop 46 text
    → (ids : List ObjectId) (rest : List ℕ) → AreParents tree after ids rest → AreParents (tree_of text) (drop 46 text) ids rest
read_at text tree after t b ids rest are =
    let P : ObjectId → Type 0 = λ id. AreParents id after ids rest in
    let Q : List ℕ → Type 0 = λ s. AreParents (tree_of text) s ids rest in
    subst Q b (subst P t are)

-- If they are not read, the commit is not read.
pub unread-refused : (text : List ℕ) (tree : ObjectId) (after : List ℕ) → HasTree text → tree ≡ tree_of text → after ≡ drop 46 text
    → (error : ParseError) → IsUnread tree after error → IsRefused text error
unread-refused text tree after has t b BadTree wrong = absurd wrong
unread-refused text tree after has t b BadParent wrong =
    let P : ObjectId → Type 0 = λ id. IsBroken id after in
    let Q : List ℕ → Type 0 = λ s. IsBroken (tree_of text) s in
    (has, subst Q b (subst P t wrong))
unread-refused text tree after has t b TimeOutOfRange wrong = absurd wrong
unread-refused text tree after has t b OutOfMemory wrong = tt
