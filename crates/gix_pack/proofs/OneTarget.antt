-- A delta makes one target, and none if it is refused.
use Rattle.std.proofs.Common.{◌≡◌, ◌≢◌, ℕ, ◌≤◌, List, length, refl, sym, ◌∙◌, subst, arith}
use Rattle.gix_pack.specs.PackNumbers.{HasNumber, behind_number}
use Rattle.gix_pack.specs.DeltaForm.{Makes, IsFor, IsDelta, IsWrong, IsRefused, instructions, target_size}
use Rattle.gix_pack.specs.DeltaSteps.{IsUnmade, IsStopped}
use Rattle.gix_pack.specs.declared.delta.fault.DeltaFault.{DeltaFault}
use Rattle.gix_pack.specs.declared.delta.fault.DeltaFault.TheVariants.{SourceSize, TargetSize, Truncated, Outside, Reserved}
use Rattle.gix_pack.specs.declared.delta.fault.ApplyError.{ApplyError}
use Rattle.gix_pack.specs.declared.delta.fault.ApplyError.TheVariants.{Malformed, TooLarge, OutOfMemory}
use Rattle.gix_pack.proofs.Made.{one-made, not-broken}

pub one-target : (base delta target other : List ℕ) → IsDelta base delta target → IsDelta base delta other → target ≡ other
one-target base delta target other a b = one-made base (instructions delta) target other a.makes b.makes

not-wrong : (base delta : List ℕ) (fault : DeltaFault) (target : List ℕ) → IsWrong base delta fault → ¬ IsDelta base delta target
not-wrong base delta SourceSize target wrong is = wrong is.source
not-wrong base delta TargetSize target wrong is = wrong.1 is.number target is.makes is.sized
not-wrong base delta Truncated target wrong is = not-broken base Truncated (instructions delta) wrong target is.makes
not-wrong base delta Outside target wrong is = not-broken base Outside (instructions delta) wrong target is.makes
not-wrong base delta Reserved target wrong is = not-broken base Reserved (instructions delta) wrong target is.makes

pub no-delta : (base delta : List ℕ) (limit : ℕ) (error : ApplyError) (target : List ℕ) → error ≢ OutOfMemory → IsRefused base delta limit error → length target ≤ limit → ¬ IsDelta base delta target
no-delta base delta limit (Malformed fault) target memory refused small is = not-wrong base delta fault target refused is
no-delta base delta limit TooLarge target memory refused small is =
    let sized = is.sized in
    let large = refused.2 in
    absurd (omega (arith, sized, large, small))
no-delta base delta limit OutOfMemory target memory refused small is = memory refl

-- the instructions and the size of a delta that is for a base
module _ (base delta : List ℕ) (source : IsFor base delta) where
  wrong-unmade : (fault : DeltaFault) → IsUnmade base (instructions delta) (target_size delta) fault → IsWrong base delta fault
  wrong-unmade SourceSize unmade = absurd unmade
  wrong-unmade TargetSize unmade = (source, λ number target makes. unmade target makes)
  wrong-unmade Truncated unmade = unmade
  wrong-unmade Outside unmade = unmade
  wrong-unmade Reserved unmade = unmade

  module _ (size : ℕ) (text : List ℕ) (is-size : size ≡ target_size delta) (is-text : text ≡ instructions delta) where
    -- if they make no target of that size, the delta has a fault
    pub wrong-of : (fault : DeltaFault) → IsUnmade base text size fault → IsWrong base delta fault
    wrong-of fault unmade =
        let P : List ℕ → Type 0 = λ s. IsUnmade base s size fault in
        let Q : ℕ → Type 0 = λ n. IsUnmade base (instructions delta) n fault in
        wrong-unmade fault (subst Q is-size (subst P is-text unmade))

    pub refused-of : (limit : ℕ) (error : ApplyError) → IsStopped base text size error → IsRefused base delta limit error
    refused-of limit (Malformed fault) stopped = wrong-of fault stopped
    refused-of limit TooLarge stopped = absurd stopped
    refused-of limit OutOfMemory stopped = tt

    -- if they make one of that size, the delta makes it
    pub delta-of : HasNumber (behind_number delta) → (target : List ℕ) → Makes base text target → size ≡ length target → IsDelta base delta target
    delta-of number target makes sized =
        let P : List ℕ → Type 0 = λ s. Makes base s target in
        record { source = source; number = number; sized = sym is-size ∙ sized; makes = subst P is-text makes }
