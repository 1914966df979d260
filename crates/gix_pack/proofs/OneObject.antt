-- One object at most is at an offset of a pack.
use Rattle.std.proofs.Common.{◌≡◌, ℕ, ◌+◌, ◌-◌, List, length, drop, Option, Some, None, sym, ap, ◌∙◌, subst}
use Rattle.gix_base.specs.declared.hash.ObjectId.{ObjectId}
use Rattle.gix_base.specs.declared.object.Kind.{Kind}
use Rattle.gix_pack.specs.DeltaForm.{IsDelta}
use Rattle.gix_pack.specs.PackObjects.{HasStream, StandsAt}
use Rattle.gix_pack.specs.PackObjects.StandsAt.{whole, behind, of}
use Rattle.gix_pack.specs.declared.entry.Body.{Body}
use Rattle.gix_pack.specs.declared.entry.Body.TheVariants.{Whole, OffsetDelta, IdDelta}
use Rattle.gix_pack.proofs.OneHeader.{one-header}
use Rattle.gix_pack.proofs.OneTarget.{one-target}

abbrev some-of : {A : Type 0} (d : A) → Option A → A
some-of d None = d
some-of d (Some x) = x

same-some : {A : Type 0} (a b : A) → Some a ≡ Some b → a ≡ b
same-some a b e = ap (some-of a) e

abbrev kind-in : Kind → Body → Kind
kind-in d (Whole k) = k
kind-in d (OffsetDelta n) = d
kind-in d (IdDelta id) = d

abbrev distance-in : Body → ℕ
distance-in (Whole k) = 0
distance-in (OffsetDelta n) = n
distance-in (IdDelta id) = 0

abbrev base-in : ObjectId → Body → ObjectId
base-in d (Whole k) = d
base-in d (OffsetDelta n) = d
base-in d (IdDelta id) = id

same-kind : (k l : Kind) → Whole k ≡ Whole l → k ≡ l
same-kind k l e = ap (kind-in k) e

same-distance : (n m : ℕ) → OffsetDelta n ≡ OffsetDelta m → n ≡ m
same-distance n m e = ap distance-in e

same-base : (a b : ObjectId) → IdDelta a ≡ IdDelta b → a ≡ b
same-base a b e = ap (base-in a) e

apart-distance : {A : Type 0} (k : Kind) (n : ℕ) → Whole k ≡ OffsetDelta n → A
apart-distance k n e = cc

apart-base : {A : Type 0} (k : Kind) (id : ObjectId) → Whole k ≡ IdDelta id → A
apart-base k id e = cc

apart-deltas : {A : Type 0} (n : ℕ) (id : ObjectId) → OffsetDelta n ≡ IdDelta id → A
apart-deltas n id e = cc

module _ (inflated : List ℕ → Option (List ℕ)) (place : ObjectId → Option ℕ) (pack : List ℕ) where
  -- one stream is there
  one-stream : (offset : ℕ) (body other : Body) (content more : List ℕ) → HasStream inflated pack offset body content → HasStream inflated pack offset other more → (body ≡ other) × (content ≡ more)
  one-stream offset body other content more a b =
      let same = one-header (drop offset pack) body other (length content) (length more) a.len b.len a.header b.header in
      (same.0, same-some content more (sym a.stream ∙ ap (λ n. inflated (drop (offset + n) pack)) same.2 ∙ b.stream))

  -- the same base and the same delta make one target
  same-target : (base other delta diff content more : List ℕ) → base ≡ other → delta ≡ diff → IsDelta base delta content → IsDelta other diff more → content ≡ more
  same-target base other delta diff content more b d x y =
      let P : List ℕ → Type 0 = λ s. IsDelta s delta content in
      let Q : List ℕ → Type 0 = λ s. IsDelta other s content in
      one-target other diff content more (subst Q d (subst P b x)) y

  pub one-object : (offset : ℕ) (kind : Kind) (content : List ℕ) → StandsAt inflated place pack offset kind content
      → (other : Kind) (more : List ℕ) → StandsAt inflated place pack offset other more → (kind ≡ other) × (content ≡ more)
  one-object offset kind content (whole o k c s) other more (whole o' k' c' s') =
      let same = one-stream offset (Whole kind) (Whole other) content more s s' in
      (same-kind kind other same.0, same.1)
  one-object offset kind content (whole o k c s) other more (behind o' d' k' b' t' c' s' pos' less' at' is') =
      apart-distance kind d' (one-stream offset (Whole kind) (OffsetDelta d') content t' s s').0
  one-object offset kind content (whole o k c s) other more (of o' i' p' k' b' t' c' s' found' at' is') =
      apart-base kind i' (one-stream offset (Whole kind) (IdDelta i') content t' s s').0
  one-object offset kind content (behind o d k b t c s pos less at is) other more (whole o' k' c' s') =
      apart-distance other d (sym (one-stream offset (OffsetDelta d) (Whole other) t more s s').0)
  one-object offset kind content (behind o d k b t c s pos less at is) other more (behind o' d' k' b' t' c' s' pos' less' at' is') =
      let same = one-stream offset (OffsetDelta d) (OffsetDelta d') t t' s s' in
      let distance = same-distance d d' same.0 in
      let P : ℕ → Type 0 = λ n. StandsAt inflated place pack (offset - n) other b' in
      let base = one-object (offset - d) kind b at other b' (subst P (sym distance) at') in
      (base.0, same-target b b' t t' content more base.1 same.1 is is')
  one-object offset kind content (behind o d k b t c s pos less at is) other more (of o' i' p' k' b' t' c' s' found' at' is') =
      apart-deltas d i' (one-stream offset (OffsetDelta d) (IdDelta i') t t' s s').0
  one-object offset kind content (of o i p k b t c s found at is) other more (whole o' k' c' s') =
      apart-base other i (sym (one-stream offset (IdDelta i) (Whole other) t more s s').0)
  one-object offset kind content (of o i p k b t c s found at is) other more (behind o' d' k' b' t' c' s' pos' less' at' is') =
      apart-deltas d' i (sym (one-stream offset (IdDelta i) (OffsetDelta d') t t' s s').0)
  one-object offset kind content (of o i p k b t c s found at is) other more (of o' i' p' k' b' t' c' s' found' at' is') =
      let same = one-stream offset (IdDelta i) (IdDelta i') t t' s s' in
      let id = same-base i i' same.0 in
      let there : p ≡ p' = same-some p p' (sym found ∙ ap place id ∙ found') in
      let P : ℕ → Type 0 = λ n. StandsAt inflated place pack n other b' in
      let base = one-object p kind b at other b' (subst P (sym there) at') in
      (base.0, same-target b b' t t' content more base.1 same.1 is is')
