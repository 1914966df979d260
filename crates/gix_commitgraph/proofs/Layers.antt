-- The commits of a file of a chain, one after another.
use Rattle.std.proofs.Common.{◌≡◌, ◌↔◌, ℕ, zero, suc, ◌+◌, List, [], ◌∷◌, ◌++◌, Option, Some, None, cond, Bool, IsTrue, nat_eq, refl, sym, ap, ◌∙◌, append_assoc, arith}
use Rattle.std.proofs.lemmas.List.{append-nil}
use Rattle.std.proofs.lemmas.Slice.Eq.{slice_eq-Decides}
use Rattle.std.proofs.lemmas.Bool.Decides.{Decides-eqb}
use Rattle.std.specs.Cmp.Lexicographic.{pointwise}
use Rattle.std.specs.Option.{option_map, unwrap_or}
use Rattle.gix_base.specs.declared.hash.ObjectId.{ObjectId}
use Rattle.gix_revwalk.specs.History.{History, Entry, entry_at, same_id}
use Rattle.gix_revwalk.proofs.Places.{same_id-sym}
use Rattle.gix_ids.specs.TableForm.{id_of}
use Rattle.gix_ids.specs.TableIds.{rows_from}
use Rattle.gix_ids.specs.declared.table.Table.{Table}
use Rattle.gix_commitgraph.specs.ChainCommits.{ids_of}
use Rattle.gix_commitgraph.specs.ChainFormat.{chunk_bytes}
use Rattle.gix_commitgraph.specs.declared.commit_graph.layout.Chunk.{Chunk}
use Rattle.gix_commitgraph.proofs.Grown.{put-behind}

-- ---- base graphs

some-same : (a b : List ℕ) → Some a ≡ Some b → a ≡ b
some-same a b e = ap (λ o. unwrap_or o a) e

-- whether the bytes of the chunk are these
pub named-tells : (s hashes : List ℕ) (c : Chunk) (o : Option Chunk) (b : Bool) → o ≡ Some c → b ≡ pointwise nat_eq (chunk_bytes s c) hashes
    → IsTrue b ↔ (option_map (chunk_bytes s) o ≡ Some hashes)
named-tells s hashes c o b is tells =
    let eq = slice_eq-Decides Decides-eqb (chunk_bytes s c) hashes b tells in
    (λ t. ap (option_map (chunk_bytes s)) is ∙ ap Some (eq.0 t), λ e. eq.1 (some-same (chunk_bytes s c) hashes (sym (ap (option_map (chunk_bytes s)) is) ∙ e)))

-- ---- one row more

pub ids-append : (a b : History) → ids_of (a ++ b) ≡ ids_of a ++ ids_of b
ids-append [] b = refl
ids-append (x ∷ a) b = ap (λ (xs : List ObjectId). x.0 ∷ xs) (ids-append a b)

module _ (s : List ℕ) (t : Table) (f : ℕ → Entry) where
  row-last : (i n : ℕ) → rows_from s t f i (suc n) ≡ rows_from s t f i n ++ (id_of s t (i + n), f (i + n)) ∷ []
  row-last i zero = ap (λ p. (id_of s t p, f p) ∷ []) (let e : i ≡ i + 0 = omega arith in e)
  row-last i (suc n) =
      ap (λ (r : History). (id_of s t i, f i) ∷ r) (row-last (i + 1) n)
      ∙ ap (λ p. (id_of s t i, f i) ∷ (rows_from s t f (i + 1) n ++ (id_of s t p, f p) ∷ [])) (let e : i + 1 + n ≡ i + suc n = omega arith in e)

  pub row-more : (i : ℕ) → rows_from s t f 0 (i + 1) ≡ rows_from s t f 0 i ++ (id_of s t i, f i) ∷ []
  row-more i =
      ap (rows_from s t f 0) (let e : i + 1 ≡ suc i = omega arith in e) ∙ row-last 0 i
      ∙ ap (λ p. rows_from s t f 0 i ++ (id_of s t p, f p) ∷ []) (let e : 0 + i ≡ i = omega arith in e)

  -- one id more
  pub id-more : (old items new : List ObjectId) (x : ObjectId) (i : ℕ) → x ≡ id_of s t i → new ≡ items ++ x ∷ []
      → items ≡ old ++ ids_of (rows_from s t f 0 i) → new ≡ old ++ ids_of (rows_from s t f 0 (i + 1))
  id-more old items new x i is pushed was =
      pushed ∙ ap (λ (xs : List ObjectId). xs ++ x ∷ []) was ∙ append_assoc old (ids_of (rows_from s t f 0 i)) (x ∷ [])
      ∙ ap (λ y. old ++ (ids_of (rows_from s t f 0 i) ++ y ∷ [])) is
      ∙ ap (λ (xs : List ObjectId). old ++ xs) (sym (ids-append (rows_from s t f 0 i) ((id_of s t i, f i) ∷ [])))
      ∙ ap (λ (r : History). old ++ ids_of r) (sym (row-more i))

  -- one commit more
  pub commit-more : (h j k : History) (i : ℕ) → ((q : ObjectId) → entry_at j q ≡ entry_at (h ++ rows_from s t f 0 i) q)
      → entry_at j (id_of s t i) ≡ None
      → ((q : ObjectId) → entry_at k q ≡ cond (same_id (id_of s t i) q) (Some (f i)) (entry_at j q))
      → (q : ObjectId) → entry_at k q ≡ entry_at (h ++ rows_from s t f 0 (i + 1)) q
  commit-more h j k i was new put q =
      let id : ObjectId = id_of s t i in
      let r : History = rows_from s t f 0 i in
      let one : History = (id, f i) ∷ [] in
      let lacks : entry_at (h ++ r) id ≡ None = sym (was id) ∙ new in
      let last : entry_at ((h ++ r) ++ one) q ≡ cond (same_id id q) (Some (f i)) (entry_at ((h ++ r) ++ []) q)
      = put-behind (h ++ r) [] one id (f i) lacks (λ p. ap (λ b. cond b (Some (f i)) None) (same_id-sym p id)) q in
      put q ∙ ap (cond (same_id id q) (Some (f i))) (was q)
      ∙ ap (λ (m : History). cond (same_id id q) (Some (f i)) (entry_at m q)) (sym (append-nil (h ++ r)))
      ∙ sym last
      ∙ ap (λ (m : History). entry_at m q) (append_assoc h r one)
      ∙ ap (λ (m : History). entry_at (h ++ m) q) (sym (row-more i))
