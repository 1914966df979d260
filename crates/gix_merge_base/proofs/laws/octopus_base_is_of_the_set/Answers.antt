use Rattle.std.proofs.Common.{sym, ◌∙◌, ◌∷◌}
use Rattle.std.proofs.lemmas.List.Sorted.{list_any-IsPermutation}
use Rattle.gix_base.specs.declared.hash.ObjectId.{ObjectId}
use Rattle.gix_revwalk.specs.History.{same_id}
use Rattle.gix_merge_base.proofs.OctopusLaws.{same_base}
use Rattle.gix_merge_base.proofs.laws.octopus_base_is_of_the_set.Goals as goal

pub returns : goal.returns
returns c = record {
  same_ids = λ h f g os ps r s same. same_base h f g os ps same r s;
  any_order = λ h f g os ps r s moved.
      let same = λ (i : ObjectId). list_any-IsPermutation (same_id i) (f ∷ os) (g ∷ ps) moved in
      same_base h f g os ps (λ i. ((λ m. sym (same i) ∙ m), (λ m. same i ∙ m))) r s;
}
