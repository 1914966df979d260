-- Why a commit is not described, of the history that a handle has.
use Rattle.std.proofs.Common.{◌≡◌, sym, subst, Bool, IsTrue}
use Rattle.std.specs.Prelude.{◌^◌}
use Rattle.gix_base.specs.declared.hash.ObjectId.{ObjectId}
use Rattle.gix_revwalk.specs.Followed.{followed}
use Rattle.gix_revwalk.specs.History.{History, Has, IsAncestor}
use Rattle.gix_revwalk.specs.Sizes.{AtLeast}
use Rattle.gix_describe.proofs.Follows.{same_has}

pub lacked : (first : Bool) (h k : History) (s : ObjectId) → h ≡ k → (¬ Has (followed first h) s) → ¬ Has k s
lacked first h k s same lacks = λ has. lacks (subst IsTrue (sym (same_has first h s)) (subst (λ (g : History). Has g s) (sym same) has))

pub many-reached : (b first : Bool) (h k : History) (s : ObjectId) → h ≡ k → b ≡ first
    → AtLeast (2 ^ 32) (IsAncestor (followed b h) s) → AtLeast (2 ^ 32) (IsAncestor (followed first k) s)
many-reached b first h k s same is many =
    subst (λ (x : Bool). AtLeast (2 ^ 32) (IsAncestor (followed x k) s)) is (subst (λ (g : History). AtLeast (2 ^ 32) (IsAncestor (followed b g) s)) same many)
