use Rattle.std.proofs.Common.{◌≡◌, ◌∙◌, Some, None, [], sym}
use Rattle.gix_history.proofs.known.Known.new.Goals as goal

pub invariant_of-result : goal.invariant_of-result
invariant_of-result g c = (
  λ id e found. let wrong : None ≡ Some e = sym (c.with_seed.ensures.empty id) ∙ found in cc,
  λ is. ((λ id. []), (λ id e found. let wrong : None ≡ Some e = sym (c.with_seed.ensures.empty id) ∙ found in cc)),
)
