-- What the instructions of a delta make.
use Rattle.std.proofs.Common.{◌≡◌, ◌≢◌, ℕ, ◌+◌, ◌<◌, List, [], ◌∷◌, ◌++◌, length, refl, sym, ap, ◌∙◌, subst, arith, append_assoc, append-nil, length-append}
use Rattle.std.specs.Prelude.{Result, Ok, Err}
use Rattle.gix_pack.specs.DeltaForm.{Addition, step_at, Makes, Breaks}
use Rattle.gix_pack.specs.DeltaForm.Makes.{nothing, more}
use Rattle.gix_pack.specs.DeltaForm.Breaks.{here, later}
use Rattle.gix_pack.specs.DeltaSteps.{IsStepFault, IsUnmade}
use Rattle.gix_pack.specs.declared.delta.fault.DeltaFault.{DeltaFault}
use Rattle.gix_pack.specs.declared.delta.fault.DeltaFault.TheVariants.{SourceSize, TargetSize, Truncated, Outside, Reserved}

empty : (s : List ℕ) → length s ≡ 0 → s ≡ []
empty [] e = refl
empty (b ∷ s) e = absurd (omega (arith, e))

abbrev step-of : Result Addition DeltaFault → Addition → Addition
step-of (Ok s) d = s
step-of (Err e) d = d

-- the first of some instructions begins what they make
first-made : (base text made : List ℕ) → Makes base text made → 0 < length text → (step : Addition) → step_at base text ≡ Ok step
    → (tail : List ℕ) × (made ≡ step.added ++ tail) × Makes base step.rest tail
first-made base text made nothing some step is = absurd (omega arith)
first-made base text made (more t other tail pos own next) some step is =
    let same : other ≡ step = ap (λ r. step-of r step) (sym own ∙ is) in
    let P : Addition → Type 0 = λ s. (rest : List ℕ) × (other.added ++ tail ≡ s.added ++ rest) × Makes base s.rest rest in
    subst P same (tail, refl, next)

none-made : (base text made : List ℕ) → Makes base text made → length text ≡ 0 → made ≡ []
none-made base text made nothing e = refl
none-made base text made (more t step tail pos own next) e = absurd (omega (arith, e, pos))

-- what is made after the instructions before rest were followed
pub record IsFollowed (base text rest made : List ℕ) : Type 0 where
  pub makes : (tail : List ℕ) → Makes base rest tail → Makes base text (made ++ tail)
  pub only : (all : List ℕ) → Makes base text all → (tail : List ℕ) × (all ≡ made ++ tail) × Makes base rest tail
  pub breaks : (fault : DeltaFault) → Breaks base fault rest → Breaks base fault text

pub followed-start : (base text made : List ℕ) → made ≡ [] → IsFollowed base text text made
followed-start base text made none =
    let P : List ℕ → Type 0 = λ m. IsFollowed base text text m in
    subst P (sym none) (record {
      makes = λ tail m. m;
      only = λ all m. (all, refl, m);
      breaks = λ fault b. b;
    })

-- one more instruction is followed
pub followed-step : (base text rest made next items : List ℕ) (step : Addition) → IsFollowed base text rest made → 0 < length rest → step_at base rest ≡ Ok step
    → next ≡ step.rest → items ≡ made ++ step.added → IsFollowed base text next items
followed-step base text rest made next items step f some is n i =
    let P : List ℕ → Type 0 = λ s. IsFollowed base text s items in
    let Q : List ℕ → Type 0 = λ m. IsFollowed base text step.rest m in
    let M : List ℕ → Type 0 = λ all. Makes base text all in
    subst P (sym n) (subst Q (sym i) (record {
      makes = λ tail m. subst M (sym (append_assoc made step.added tail)) (f.makes (step.added ++ tail) (more rest step tail some is m));
      only = λ all m.
          let a = f.only all m in
          let b = first-made base rest a.0 a.2 some step is in
          (b.0, a.1 ∙ ap (λ s. made ++ s) b.1 ∙ sym (append_assoc made step.added b.0), b.2);
      breaks = λ fault b. f.breaks fault (later rest step some is b);
    }))

pub followed-end : (base text rest made : List ℕ) → IsFollowed base text rest made → length rest ≡ 0 → Makes base text made
followed-end base text rest made f e =
    let P : List ℕ → Type 0 = λ s. Makes base s [] in
    let M : List ℕ → Type 0 = λ all. Makes base text all in
    subst M (append-nil made) (f.makes [] (subst P (sym (empty rest e)) nothing))

-- nothing of another size is made if all instructions were followed
pub other-size : (base text rest made : List ℕ) (size : ℕ) → IsFollowed base text rest made → length rest ≡ 0 → length made ≢ size
    → (all : List ℕ) → Makes base text all → size ≢ length all
other-size base text rest made size f e other all m same =
    let a = f.only all m in
    let none = none-made base rest a.0 a.2 e in
    let is : all ≡ made = a.1 ∙ ap (λ s. made ++ s) none ∙ append-nil made in
    other (sym (ap length is) ∙ sym same)

-- nothing of a size is made if an instruction adds more than that
pub too-long : (base text rest made : List ℕ) (size : ℕ) (step : Addition) → IsFollowed base text rest made → 0 < length rest → step_at base rest ≡ Ok step
    → size < length made + length step.added → (all : List ℕ) → Makes base text all → size ≢ length all
too-long base text rest made size step f some is long all m same =
    let a = f.only all m in
    let b = first-made base rest a.0 a.2 some step is in
    let whole : length all ≡ length made + length a.0 = ap length a.1 ∙ length-append made a.0 in
    let part : length a.0 ≡ length step.added + length b.0 = ap length b.1 ∙ length-append step.added b.0 in
    absurd (omega (arith, whole, part, long, same))

-- an instruction has a fault
pub unmade : (base text rest made : List ℕ) (size : ℕ) (fault : DeltaFault) → IsFollowed base text rest made → 0 < length rest → step_at base rest ≡ Err fault
    → IsStepFault fault → IsUnmade base text size fault
unmade base text rest made size SourceSize f some is own = absurd own
unmade base text rest made size TargetSize f some is own = absurd own
unmade base text rest made size Truncated f some is own = f.breaks Truncated (here rest some is)
unmade base text rest made size Outside f some is own = f.breaks Outside (here rest some is)
unmade base text rest made size Reserved f some is own = f.breaks Reserved (here rest some is)

-- instructions make one thing
pub one-made : (base text made other : List ℕ) → Makes base text made → Makes base text other → made ≡ other
one-made base text made other nothing m = sym (none-made base [] other m refl)
one-made base text made other (more t step tail some is next) m =
    let b = first-made base text other m some step is in
    ap (λ s. step.added ++ s) (one-made base step.rest tail b.0 next b.2) ∙ sym b.1

never : {A : Type 0} (r : Result Addition DeltaFault) (step : Addition) (fault : DeltaFault) → r ≡ Ok step → r ≡ Err fault → A
never r step fault ok err = let wrong : Ok step ≡ Err fault = sym ok ∙ err in cc

-- instructions make nothing if one of them has a fault
pub not-broken : (base : List ℕ) (fault : DeltaFault) (text : List ℕ) → Breaks base fault text → (made : List ℕ) → ¬ Makes base text made
not-broken base fault text (here t some wrong) made nothing = absurd (omega arith)
not-broken base fault text (here t some wrong) made (more u step tail some' is next) = never (step_at base text) step fault is wrong
not-broken base fault text (later t other some is b) made m =
    let c = first-made base text made m some other is in
    not-broken base fault other.rest b c.0 c.2
