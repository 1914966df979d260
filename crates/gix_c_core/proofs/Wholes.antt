-- Histories that have the commits of another one.
use Rattle.std.proofs.Common.{◌≡◌, ◌∙◌, ◌⊎◌, inl, inr, ⊎_elim, refl, sym, Option, Some, None, is_some, IsTrue}
use Rattle.gix_revwalk.specs.History.{Entry, entry_at}
use Rattle.gix_commitgraph.proofs.Joins.{first-has, first-lacks}
use Rattle.gix_c_core.specs.Partial.{EachIsWhole}

-- a value that is there is the other one
agrees : (o p : Option Entry) → IsTrue (is_some o) → ((e : Entry) → o ≡ Some e → p ≡ Some e) → o ≡ p
agrees None p there f = cc
agrees (Some e) p there f = sym (f e refl)

has-or-lacks : (o : Option Entry) → IsTrue (is_some o) ⊎ (o ≡ None)
has-or-lacks None = inr refl
has-or-lacks (Some e) = inl refl

pub each-is-whole : EachIsWhole
each-is-whole h more all q =
    ⊎_elim (λ has. first-has h more q has ∙ agrees (entry_at h q) (entry_at more q) has (all q))
    (λ lacks. first-lacks h more q lacks) (has-or-lacks (entry_at h q))
