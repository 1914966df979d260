-- A text begins with one header at most.
use Rattle.std.proofs.Common.{◌≡◌, ℕ, ◌+◌, ◌==◌, ◌<◌, List, cond, refl, sym, ap, ◌∙◌, arith}
use Rattle.gix_base.specs.declared.object.Kind.{Kind}
use Rattle.gix_base.specs.declared.object.Kind.TheVariants.{Tree, Blob, Commit, Tag}
use Rattle.gix_pack.specs.EntryForm.{type_of, type_number, HasBody, IsHeader}
use Rattle.gix_pack.specs.PackNumbers.{number_length, behind_number}
use Rattle.gix_pack.specs.declared.entry.Body.{Body}
use Rattle.gix_pack.specs.declared.entry.Body.TheVariants.{Whole, OffsetDelta, IdDelta}

abbrev number_kind : ℕ → Kind
number_kind n = cond (n == 1) Commit (cond (n == 2) Tree (cond (n == 3) Blob Tag))

kind-back : (k : Kind) → number_kind (type_number k) ≡ k
kind-back Commit = refl
kind-back Tree = refl
kind-back Blob = refl
kind-back Tag = refl

one-kind : (k l : Kind) → type_number k ≡ type_number l → k ≡ l
one-kind k l e = sym (kind-back k) ∙ ap number_kind e ∙ kind-back l

low : (k : Kind) → type_number k < 5
low Commit = omega arith
low Tree = omega arith
low Blob = omega arith
low Tag = omega arith

apart : {A : Type 0} (type : ℕ) (k : Kind) (n : ℕ) → type ≡ type_number k → type ≡ n → 4 < n → A
apart type k n e f h = let l = low k in absurd (omega (arith, e, f, l, h))

one-body : (type : ℕ) (rest : List ℕ) (b c : Body) (n m : ℕ) → HasBody type rest b n → HasBody type rest c m → (b ≡ c) × (n ≡ m)
one-body type rest (Whole k) (Whole l) n m h i = (ap Whole (one-kind k l (sym h.0 ∙ i.0)), h.1 ∙ sym i.1)
one-body type rest (Whole k) (OffsetDelta d) n m h i = apart type k 6 h.0 i.0 (omega arith)
one-body type rest (Whole k) (IdDelta d) n m h i = apart type k 7 h.0 i.0 (omega arith)
one-body type rest (OffsetDelta d) (Whole k) n m h i = apart type k 6 i.0 h.0 (omega arith)
one-body type rest (OffsetDelta d) (OffsetDelta e) n m h i = (ap OffsetDelta (h.2 ∙ sym i.2), h.3 ∙ sym i.3)
one-body type rest (OffsetDelta d) (IdDelta e) n m h i = let a = h.0 in let b = i.0 in absurd (omega (arith, a, b))
one-body type rest (IdDelta d) (Whole k) n m h i = apart type k 7 i.0 h.0 (omega arith)
one-body type rest (IdDelta d) (OffsetDelta e) n m h i = let a = h.0 in let b = i.0 in absurd (omega (arith, a, b))
one-body type rest (IdDelta d) (IdDelta e) n m h i =
    let same : d.0 ≡ e.0 = h.2 ∙ sym i.2 in
    (ap (λ (l : List ℕ). IdDelta (record { 0 = l })) same, h.3 ∙ sym i.3)

pub one-header : (text : List ℕ) (body other : Body) (size more len end : ℕ) → IsHeader text body size len → IsHeader text other more end → (body ≡ other) × (size ≡ more) × (len ≡ end)
one-header text body other size more len end a b =
    let same = one-body (type_of text) (behind_number text) body other a.stands.0 b.stands.0 a.stands.1 b.stands.1 in
    (same.0, a.sized ∙ sym b.sized, a.stands.2 ∙ ap (λ n. number_length text + n) same.1 ∙ sym b.stands.2)
