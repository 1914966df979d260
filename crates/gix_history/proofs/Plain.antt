-- A history without its generation numbers.
use Rattle.std.proofs.Common.{◌≡◌, [], ◌∷◌, cond, Option, Some, None, is_some, true, false, inl, inr, refl, sym, ap, ◌∙◌, subst}
use Rattle.std.specs.Option.{option_map}
use Rattle.gix_base.specs.declared.hash.ObjectId.{ObjectId}
use Rattle.gix_revwalk.specs.History.{History, Entry, Has, entry_at, is_one_of, parents_in, same_id}
use Rattle.gix_object.specs.Authentic.{IsAuthentic, AreAuthentic, IsClosed}
use Rattle.gix_object.proofs.Determined.{determined}
use Rattle.gix_history.specs.Origins.{plain, IsCommitOf}
use Rattle.gix_history.specs.Levels.{AreCommits}
use Rattle.gix_history.specs.HistoryLaws.{plain_history, content_of, contents_of, PlainIsAuthentic, TipsDetermine}

entry-plain : (h : History) (q : ObjectId) → entry_at (plain_history h) q ≡ option_map plain (entry_at h q)
entry-plain [] q = refl
entry-plain (e ∷ es) q =
    elim (same_id q e.0) as (λ b. cond b (Some (plain e.1)) (entry_at (plain_history es) q) ≡ option_map plain (cond b (Some e.1) (entry_at es q))) [
      | true ↦ refl
      | false ↦ entry-plain es q
    ]

some-plain : (o : Option Entry) → is_some (option_map plain o) ≡ is_some o
some-plain None = refl
some-plain (Some e) = refl

parents-plain : (o : Option Entry) → parents_in (option_map plain o) ≡ parents_in o
parents-plain None = refl
parents-plain (Some e) = refl

has-plain : (h : History) (q : ObjectId) → Has h q → Has (plain_history h) q
has-plain h q has = ap is_some (entry-plain h q) ∙ some-plain (entry_at h q) ∙ has

authentic-at : (id : ObjectId) (o : Option Entry) (are : (c : Entry) → o ≡ Some c → IsCommitOf id c) (commit : Entry)
    → option_map plain o ≡ Some commit → IsAuthentic (content_of id o are) id commit
authentic-at id None are commit is = let wrong : None ≡ Some commit = is in cc
authentic-at id (Some e) are commit is =
    let same : plain e ≡ commit = cc in
    let P : Entry → Type 0 = λ x. IsAuthentic (are e refl).0 id x in
    subst P same (are e refl).1

authentic-plain : (h : History) (are : AreCommits h) → AreAuthentic (contents_of h are) (plain_history h)
authentic-plain h are id commit found = authentic-at id (entry_at h id) (are id) commit (sym (entry-plain h id) ∙ found)

closed-plain : (h : History) → IsClosed h → IsClosed (plain_history h)
closed-plain h closed a b member =
    has-plain h b (closed a b (sym (ap (λ ps. is_one_of ps b) (ap parents_in (entry-plain h a) ∙ parents-plain (entry_at h a))) ∙ member))

pub plain-is-authentic : PlainIsAuthentic
plain-is-authentic h are = (authentic-plain h are, closed-plain h)

pub tips-determine : TipsDetermine
tips-determine h k ours theirs closed =
    elim (determined (contents_of h ours) (contents_of k theirs) (plain_history h) (plain_history k) (authentic-plain h ours) (authentic-plain k theirs) (closed-plain k closed)) [
      | inl same ↦ inl (λ tip has. same tip (has-plain k tip has))
      | inr collision ↦ inr collision
    ]
