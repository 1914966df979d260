-- The laws, from authentic histories that agree.
use Rattle.std.proofs.Common.{inl, inr, [], ◌∷◌}
use Rattle.gix_revwalk.specs.History.{History}
use Rattle.gix_object.specs.Authentic.{IsClosed, Agree}
use Rattle.gix_object.proofs.Determined.{agree-or}
use Rattle.gix_authentic.specs.Determined.{HoldsOrCollides, AncestryIsDetermined, RangesAreDetermined, ListsAreDetermined, CountsAreDetermined, BasesAreDetermined, OctopusBasesAreDetermined, OctopusBaseIsDetermined, DescriptionsAreDetermined}
use Rattle.gix_authentic.proofs.Same.{turned, swapped, first-of, go, back}
use Rattle.gix_authentic.proofs.SameRanges.{beyond-over, beyond-back, lists-over, counts-over}
use Rattle.gix_authentic.proofs.SameBases.{bases-over, octopus-bases-over, octopus-base-over}
use Rattle.gix_authentic.proofs.SameDescriptions.{described-over}

-- A statement about closed histories that agree holds of authentic ones, or a collision is at hand.
holds : (S : History → History → Type 0) → ((h k : History) → Agree h k → IsClosed h → IsClosed k → S h k) → HoldsOrCollides S
holds S of contents others h k ours theirs closed-h closed-k =
    elim (agree-or contents others h k ours theirs) [
      | inl agree ↦ inl (of h k agree closed-h closed-k)
      | inr collide ↦ inr collide
    ]

pub ancestry : AncestryIsDetermined
ancestry = holds _ (λ h k agree closed-h closed-k a c both. (
  go h k agree closed-h closed-k a c (first-of h k a [] both).1,
  back h k agree closed-h closed-k a c (first-of h k a [] both).0,
))

pub ranges : RangesAreDetermined
ranges = holds _ (λ h k agree closed-h closed-k shown hidden c s t. (
  beyond-over h k agree closed-h closed-k shown hidden s t c,
  beyond-back h k agree closed-h closed-k shown hidden s t c,
))

pub lists : ListsAreDetermined
lists = holds _ (λ h k agree closed-h closed-k shown hidden ids s t. (
  lists-over h k agree closed-h closed-k shown hidden s t ids,
  lists-over k h (turned h k agree) closed-k closed-h shown hidden (swapped h k shown s) (swapped h k hidden t) ids,
))

pub counts : CountsAreDetermined
counts = holds _ (λ h k agree closed-h closed-k shown hidden n s t. (
  counts-over h k agree closed-h closed-k shown hidden s t n,
  counts-over k h (turned h k agree) closed-k closed-h shown hidden (swapped h k shown s) (swapped h k hidden t) n,
))

pub bases : BasesAreDetermined
bases = holds _ (λ h k agree closed-h closed-k f os ids both. (
  bases-over h k agree closed-h closed-k f os both ids,
  bases-over k h (turned h k agree) closed-k closed-h f os (swapped h k (f ∷ os) both) ids,
))

pub octopus-bases : OctopusBasesAreDetermined
octopus-bases = holds _ (λ h k agree closed-h closed-k f os ids both. (
  octopus-bases-over h k agree closed-h closed-k f os both ids,
  octopus-bases-over k h (turned h k agree) closed-k closed-h f os (swapped h k (f ∷ os) both) ids,
))

pub octopus-base : OctopusBaseIsDetermined
octopus-base = holds _ (λ h k agree closed-h closed-k f os r both. (
  octopus-base-over h k agree closed-h closed-k f os both r,
  octopus-base-over k h (turned h k agree) closed-k closed-h f os (swapped h k (f ∷ os) both) r,
))

pub descriptions : DescriptionsAreDetermined
descriptions = holds _ (λ h k agree closed-h closed-k s names cap fallback r both. (
  described-over h k agree closed-h closed-k s (first-of h k s [] both).0 (first-of h k s [] both).1 names cap fallback r,
  described-over k h (turned h k agree) closed-k closed-h s (first-of h k s [] both).1 (first-of h k s [] both).0 names cap fallback r,
))
