-- Entries one after another.
use Rattle.std.specs.Prelude.{IfSome}
use Rattle.std.proofs.Common.{◌≡◌, ℕ, ◌+◌, ◌-◌, Option, Some, List, [], ◌∷◌, ◌++◌, length, take, drop, refl, sym, ap, ◌∙◌, subst, length-append}
use Rattle.gix_index.specs.IndexEntry.{IsEntry}
use Rattle.gix_index.specs.IndexForm.{last_path, AreEntries, IsHeader, IsIndex}
use Rattle.gix_index.specs.IndexForm.AreEntries.{none, next}
use Rattle.gix_index.specs.declared.entry.Entry.{Entry}

pub no_entries : {A : Type 0} (version : ℕ) (s : List ℕ) (es : List (Entry A)) → es ≡ [] → AreEntries version s es s
no_entries {A} version s es e = subst (λ (x : List (Entry A)). AreEntries version s x s) (sym e) none

pub next_entry : {A : Type 0} (version : ℕ) (s : List ℕ) (es new : List (Entry A)) (e : Entry A) (before at rest : List ℕ) (n : ℕ)
    → AreEntries version s es at → before ≡ last_path es
    → (o : Option (Entry A × ℕ)) → IfSome o (λ p. IsEntry version before at p.0 p.1) → o ≡ Some (e, n) → new ≡ es ++ e ∷ [] → rest ≡ drop n at
    → AreEntries version s new rest
next_entry {A} version s es new e before at rest n are b o found some p r =
    let is : IsEntry version before at e n = subst (λ (x : Option (Entry A × ℕ)). IfSome x (λ p. IsEntry version before at p.0 p.1)) some found in
    let one = next es e at n are (subst (λ (x : List ℕ). IsEntry version x at e n) b is) in
    let two = subst (λ (x : List ℕ). AreEntries version s (es ++ e ∷ []) x) (sym r) one in
    subst (λ (x : List (Entry A)). AreEntries version s x rest) (sym p) two

pub one_more : {A : Type 0} (es new : List (Entry A)) (e : Entry A) (n : ℕ) → new ≡ es ++ e ∷ [] → length es ≡ n → length new ≡ n + 1
one_more es new e n p k = ap length p ∙ length-append es (e ∷ []) ∙ ap (λ x. x + 1) k

pub whole_index : {A : Type 0} (s content text rest : List ℕ) (version count : ℕ) (es : List (Entry A)) → IsHeader s version count
    → content ≡ take (length s - 20) s → text ≡ drop 12 content → AreEntries version text es rest → length es ≡ count → IsIndex s es
whole_index s content text rest version count es h p t are k = record {
  header = record { signature = h.signature; says_version = refl; says_count = k ∙ h.says_count };
  rest = rest;
  entries = subst (λ x. AreEntries x (drop 12 (take (length s - 20) s)) es rest) h.says_version (subst (λ x. AreEntries version x es rest) (t ∙ ap (drop 12) p) are);
}
