-- The equations of `refusals_in`.
use Rattle.std.proofs.Common.{◌≡◌, ℕ, ◌+◌, ◌<◌, ◌≤◌, List, [], ◌∷◌, ◌++◌, length, get_or, set, arith}
use Rattle.gix_base.specs.Exn.{causes_of}
use Rattle.gix_base.specs.Refusals.{refusal_step, refusals_in, refusals_among}
use Rattle.gix_base.specs.declared.error.Exn.{Exn}
use Rattle.gix_base.specs.declared.error.Exn.TheOpen.{Exn-F}
use Rattle.gix_base.specs.declared.error.Exn.TheViews.{roll-Exn}
use Rattle.gix_base.specs.declared.error.Exn.TheFolds.{fold-roll-Exn, fold_out-Exn}

pub refusals_in_roll : (x : Exn-F Exn) → refusals_in (roll-Exn x) ≡ 1 + refusals_among x.causes.items
refusals_in_roll = fold-roll-Exn ℕ refusal_step

pub refusals_in_out : (e : Exn) → refusals_in e ≡ 1 + refusals_among (causes_of e)
refusals_in_out = fold_out-Exn ℕ refusal_step

pub refusals_among_push : (es : List Exn) (e : Exn) → refusals_among (es ++ (e ∷ [])) ≡ refusals_among es + refusals_in e
refusals_among_push [] e = omega arith
refusals_among_push (f ∷ es) e = omega (arith, refusals_among_push es e)

-- the first of some, with another in its place
pub refusals_among_set : (es : List Exn) (e : Exn) → 0 < length es → refusals_among (set es 0 e) + refusals_in (get_or es 0 e) ≡ refusals_among es + refusals_in e
refusals_among_set [] e some = absurd (omega arith)
refusals_among_set (f ∷ es) e some = omega arith

-- the first of some is no more than all
pub first-le_among : (es : List Exn) (e : Exn) → 0 < length es → refusals_in (get_or es 0 e) ≤ refusals_among es
first-le_among [] e some = absurd (omega arith)
first-le_among (f ∷ es) e some = omega arith
