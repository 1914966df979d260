-- What is measured, as the answer of `describe`.
use Rattle.std.proofs.Common.{◌≡◌, ℕ, Bool, true, false, refl, ap, sym, subst, ◌∙◌, inl, inr, not, List, Option, Some, None, Result, Ok, Err}
use Rattle.std.specs.Prelude.{IfOk}
use Rattle.std.specs.Option.{option_map}
use Rattle.gix_base.specs.declared.hash.ObjectId.{ObjectId}
use Rattle.gix_base.specs.declared.error.message.Message.{Message}
use Rattle.gix_base.specs.declared.error.message.Message.TheVariants.{ParentsOf, MissingStart, CounterFull, OutOfMemory}
use Rattle.gix_revwalk.specs.History.{History}
use Rattle.gix_describe.specs.declared.describe.options.Tie.{Tie}
use Rattle.gix_describe.specs.Described.{Names, Description, name_at, IsNamed, named, unnamed, nothing_to_find, IsDescribed}
use Rattle.gix_describe.specs.Asks.{IsWalkRefused}
use Rattle.gix_describe.specs.Choice.{IsFound}
use Rattle.gix_describe.specs.Order.{IsTied, HoldsFirst}
use Rattle.gix_describe.specs.Ties.{IsFixed, IsHeldBy}
use Rattle.gix_describe.specs.DescribeRefusals.{IsRefused}

pub if_ok : {T E : Type 0} (r : Result T E) (P Q : T → Type 0) → ((x : T) → P x → Q x) → IfOk r P → IfOk r Q
if_ok (Ok x) P Q f p = f x p
if_ok (Err e) P Q f p = p

module _ (h : History) (s : ObjectId) (names : Names) (cap : ℕ) (fallback : Bool) where
  pub described_named : (r : Option Description) → IsNamed names s → r ≡ option_map (λ name. named name 0 0) (name_at names s) → IsDescribed h s names cap fallback r
  described_named r has is = rw has.1 (is ∙ ap (option_map (λ name. named name 0 0)) has.1)

  pub described_idle : (r : Option Description) → name_at names s ≡ None → nothing_to_find names cap ≡ true → r ≡ unnamed fallback 0 → IsDescribed h s names cap fallback r
  described_idle r absent idle is = rw (absent, idle) is

  pub described_none : (r : Option Description) (seen : ℕ) → name_at names s ≡ None → nothing_to_find names cap ≡ false → IsFound h s names cap None seen → r ≡ unnamed fallback seen → IsDescribed h s names cap fallback r
  described_none r seen absent busy f is = rw (absent, busy) (f.0, inl (f.1.0, seen, f.1.1, is))

  pub described_some : (r : Option Description) (p : ObjectId × ℕ) (seen : ℕ) → name_at names s ≡ None → nothing_to_find names cap ≡ false → IsFound h s names cap (Some p) seen → r ≡ option_map (λ name. named name p.1 seen) (name_at names p.0)
      → IsDescribed h s names cap fallback r
  described_some r p seen absent busy f is = rw (absent, busy) (f.0, inr (p.0, f.1.0, p.1, seen, is ∙ ap (option_map (λ name. named name p.1 seen)) f.1.1, f.1.2))

  pub refused_walk : (e : Message) → name_at names s ≡ None → nothing_to_find names cap ≡ false → IsWalkRefused h s e → IsRefused h s names cap e
  refused_walk (ParentsOf id) absent busy r = ((absent, ap not busy), r)
  refused_walk (MissingStart id) absent busy r = ((absent, ap not busy), r.0, r.1)
  refused_walk CounterFull absent busy r = ((absent, ap not busy), r)
  refused_walk OutOfMemory absent busy r = r

-- ---- the fixed answer
pub fixed_none : (tie : Tie) (h : History) (s : ObjectId) (names : Names) (cap seen : ℕ) (fallback : Bool) (r : Option Description) → r ≡ unnamed fallback seen → IsFixed tie h s names cap r
fixed_none tie h s names cap seen fallback r is = subst (λ o. IsFixed tie h s names cap o) (sym is) (by fallback)
  where
    by : (b : Bool) → IsFixed tie h s names cap (unnamed b seen)
    by true = tt
    by false = tt

pub fixed_some : (tie : Tie) (h : History) (s : ObjectId) (names : Names) (cap seen depth : ℕ) (t : ObjectId) (r : Option Description) → r ≡ option_map (λ name. named name depth seen) (name_at names t) → IsTied tie h s names cap t depth seen → IsFixed tie h s names cap r
fixed_some tie h s names cap seen depth t r is tied = subst (λ o. IsFixed tie h s names cap o) (sym is) (by (name_at names t) refl)
  where
    by : (o : Option (List ℕ)) → name_at names t ≡ o → IsFixed tie h s names cap (option_map (λ name. named name depth seen) o)
    by None e = tt
    by (Some name) e = (t, e, tied)

pub held_none : (tie : Tie) (h : History) (s : ObjectId) (held : ObjectId → Option ℕ) (seen : ℕ) (fallback : Bool) (r : Option Description) → r ≡ unnamed fallback seen → HoldsFirst tie h s seen held → IsHeldBy tie h s r held
held_none tie h s held seen fallback r is k = subst (λ o. IsHeldBy tie h s o held) (sym is) (by fallback)
  where
    by : (b : Bool) → IsHeldBy tie h s (unnamed b seen) held
    by true = k
    by false = tt

pub held_some : (tie : Tie) (h : History) (s : ObjectId) (names : Names) (held : ObjectId → Option ℕ) (seen depth : ℕ) (t : ObjectId) (r : Option Description) → r ≡ option_map (λ name. named name depth seen) (name_at names t) → HoldsFirst tie h s seen held → IsHeldBy tie h s r held
held_some tie h s names held seen depth t r is k = subst (λ o. IsHeldBy tie h s o held) (sym is) (by (name_at names t))
  where
    by : (o : Option (List ℕ)) → IsHeldBy tie h s (option_map (λ name. named name depth seen) o) held
    by None = tt
    by (Some name) = k
