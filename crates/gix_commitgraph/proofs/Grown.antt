-- A file's history with newer commits behind it, to which one is put that both lack.
use Rattle.std.proofs.Common.{◌≡◌, [], ◌∷◌, ◌++◌, Option, Some, None, is_some, cond, true, false, refl, sym, ap, ◌∙◌}
use Rattle.std.specs.Prelude.{Result, Ok, Err, OnOk, IfErr}
use Rattle.gix_base.specs.declared.hash.ObjectId.{ObjectId}
use Rattle.std.proofs.lemmas.List.{append-nil}
use Rattle.gix_revwalk.proofs.Ids.{same_id-true, same_id-itself}
use Rattle.gix_revwalk.specs.History.{History, Entry, Has, entry_at, same_id}
use Rattle.gix_revwalk.specs.Memory.{SaysWhy}
use Rattle.gix_revwalk.specs.declared.graph.find.SourceCommit.{SourceCommit}
use Rattle.gix_revwalk.specs.declared.graph.insert.InsertError.{InsertError}
use Rattle.gix_revwalk.specs.declared.graph.insert.InsertError.TheVariants.{AlreadyThere, OutOfMemory}
use Rattle.gix_commitgraph.proofs.Joins.{first-has, first-lacks}

-- where nothing is, there is none
pub is-none : {X : Type 0} (o : Option X) → is_some o ≡ false → o ≡ None
is-none None e = refl
is-none (Some x) e = cc

-- what the file has the two have
pub in-both : (h k : History) (id : ObjectId) → is_some (entry_at h id) ≡ true → Has (h ++ k) id
in-both h k id has = ap is_some (first-has h k id has) ∙ has

-- id is in neither
pub new-of-both : {X E : Type 0} (h k : History) (id : ObjectId) → entry_at h id ≡ None → (r : Result X E) → OnOk r (entry_at k id ≡ None) → OnOk r (entry_at (h ++ k) id ≡ None)
new-of-both h k id lacks (Ok x) new = first-lacks h k id lacks ∙ new
new-of-both h k id lacks (Err x) new = tt

module _ (h k n : History) (id : ObjectId) (d : Entry) (lacks : entry_at h id ≡ None) (put : (q : ObjectId) → entry_at n q ≡ cond (same_id id q) (Some d) (entry_at k q)) where
  -- by whether the file has q
  at-newer : (q : ObjectId) → entry_at h q ≡ None → entry_at (h ++ n) q ≡ cond (same_id id q) (Some d) (entry_at (h ++ k) q)
  at-newer q none = first-lacks h n q none ∙ put q ∙ ap (cond (same_id id q) (Some d)) (sym (first-lacks h k q none))

  apart : (q : ObjectId) → is_some (entry_at h q) ≡ true → same_id id q ≡ false
  apart q has =
      elim (same_id id q) as (λ b. same_id id q ≡ b → b ≡ false) [
        | true ↦ λ same. let none : entry_at h q ≡ None = ap (entry_at h) (sym (same_id-true id q same)) ∙ lacks in let wrong : false ≡ true = ap is_some (sym none) ∙ has in cc
        | false ↦ λ e. refl
      ] refl

  at-file : (q : ObjectId) → is_some (entry_at h q) ≡ true → entry_at (h ++ n) q ≡ cond (same_id id q) (Some d) (entry_at (h ++ k) q)
  at-file q has = rw (apart q has) (first-has h n q has ∙ sym (first-has h k q has))

  pub put-behind : (q : ObjectId) → entry_at (h ++ n) q ≡ cond (same_id id q) (Some d) (entry_at (h ++ k) q)
  put-behind q =
      elim (is_some (entry_at h q)) as (λ b. is_some (entry_at h q) ≡ b → entry_at (h ++ n) q ≡ cond (same_id id q) (Some d) (entry_at (h ++ k) q)) [
        | true ↦ λ has. at-file q has
        | false ↦ λ e. at-newer q (is-none (entry_at h q) e)
      ] refl

-- one more stands behind the file
pub put-of-both : {X E : Type 0} (h k n : History) (id : ObjectId) (d : Entry) → entry_at h id ≡ None → (r : Result X E)
    → OnOk r ((q : ObjectId) → entry_at n q ≡ cond (same_id id q) (Some d) (entry_at k q))
    → OnOk r ((q : ObjectId) → entry_at (h ++ n) q ≡ cond (same_id id q) (Some d) (entry_at (h ++ k) q))
put-of-both h k n id d lacks (Ok x) put = put-behind h k n id d lacks put
put-of-both h k n id d lacks (Err x) put = tt

says-of-both : {A : Type 0} (h k : History) (id : ObjectId) (commit : SourceCommit A) → entry_at h id ≡ None → (e : InsertError A) → SaysWhy k id commit e → SaysWhy (h ++ k) id commit e
says-of-both h k id commit lacks (AlreadyThere back) why = (why.0, ap is_some (first-lacks h k id lacks) ∙ why.1)
says-of-both h k id commit lacks (OutOfMemory back) why = (why.0, first-lacks h k id lacks ∙ why.1)

-- why neither takes it
pub why-of-both : {A X : Type 0} (h k : History) (id : ObjectId) (commit : SourceCommit A) → entry_at h id ≡ None → (r : Result X (InsertError A)) → IfErr r (SaysWhy k id commit) → IfErr r (SaysWhy (h ++ k) id commit)
why-of-both h k id commit lacks (Ok x) why = tt
why-of-both h k id commit lacks (Err e) why = says-of-both h k id commit lacks e why

nothing-in : (k : History) → ((id : ObjectId) → entry_at k id ≡ None) → k ≡ []
nothing-in [] none = refl
nothing-in (x ∷ k) none =
    let wrong : Some x.1 ≡ None = sym (ap (λ b. cond b (Some x.1) (entry_at k x.0)) (same_id-itself x.0)) ∙ none x.0 in
    cc

-- a file with nothing newer
pub nothing-newer : (h k : History) → ((id : ObjectId) → entry_at k id ≡ None) → h ++ k ≡ h
nothing-newer h k none = ap (λ n. h ++ n) (nothing-in k none) ∙ append-nil h
