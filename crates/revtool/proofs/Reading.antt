-- Several reads, one after the other.
use Rattle.std.proofs.Common.{ℕ, List, [], ◌++◌, Option, Some, None, refl, sym, ap, ◌∙◌}
use Rattle.std.proofs.lemmas.List.{append_assoc}
use Rattle.std.specs.Io.KnownBytes.{Consumes}
use Rattle.revtool.specs.Reads.{TakesMore}

-- Before the first read nothing was taken.
pub TakesMore-none : (a : Option (List ℕ)) → TakesMore a a [] []
TakesMore-none None = ([], refl, tt)
TakesMore-none (Some xs) = ([], refl, refl)

-- If one read takes xs and the next takes ys, then both together take xs and then ys.
Consumes-then : (a b c : Option (List ℕ)) (xs ys : List ℕ) → Consumes a b xs → Consumes b c ys → Consumes a c (xs ++ ys)
Consumes-then None b c xs ys h k = tt
Consumes-then (Some a) None c xs ys h k = absurd h
Consumes-then (Some a) (Some b) None xs ys h k = absurd k
Consumes-then (Some a) (Some b) (Some c) xs ys h k = h ∙ ap (λ l. xs ++ l) k ∙ sym (append_assoc xs ys c)

pub TakesMore-then : (a b c : Option (List ℕ)) (s t u : List ℕ) → TakesMore a b s t → TakesMore b c t u → TakesMore a c s u
TakesMore-then a b c s t u h k =
    (h.0 ++ k.0, k.1 ∙ ap (λ l. l ++ k.0) h.1 ∙ append_assoc s h.0 k.0, Consumes-then a b c h.0 k.0 h.2 k.2)
