-- The order of choice, as an order of candidates.
use Rattle.std.proofs.Common.{◌≡◌, Bool, false, refl, ap, ◌∙◌, IsTrue}
use Rattle.std.specs.declared.cmp.Ordering.{Ordering}
use Rattle.std.specs.declared.cmp.Ordering.TheVariants.{Less, Equal, Greater}
use Rattle.std.specs.Ordering.{nat_cmp, int_cmp, is_gt, is_eq, ordering_then, ordering_reverse}
use Rattle.std.specs.Cmp.{IsTotalOrder}
use Rattle.std.specs.Cmp.Lexicographic.{slice_cmp, texts_ties}
use Rattle.std.proofs.lemmas.Cmp.{then_total, back_total, on_total, nat_cmp_total, int_cmp_total, nat_list_cmp_total}
use Rattle.gix_base.specs.declared.hash.ObjectId.{ObjectId}
use Rattle.gix_revwalk.specs.History.{History, generation_of, time_of}
use Rattle.gix_merge_base.specs.Keys.{choice}
use Rattle.gix_merge_base.specs.Candidates.{Candidate, candidate_for}
use Rattle.gix_merge_base.specs.GenThenTime.{key_order}
use Rattle.gix_revwalk.proofs.Ids.{same_id-true}

pub choice_total : (h : History) → IsTotalOrder (choice h)
choice_total h =
    then_total (back_total (on_total (generation_of h) nat_cmp_total))
    (then_total (back_total (on_total (time_of h) int_cmp_total)) (on_total (λ (x : ObjectId). x.0) nat_list_cmp_total))

last_level : (a b c : Ordering) → ordering_then a (ordering_then b c) ≡ Equal → c ≡ Equal
last_level Less b c e = cc
last_level Greater b c e = cc
last_level Equal Less c e = cc
last_level Equal Greater c e = cc
last_level Equal Equal c e = e

-- two ids that the choice does not tell apart are the same
pub choice-same : (h : History) (x y : ObjectId) → choice h x y ≡ Equal → x ≡ y
choice-same h x y e =
    let level = last_level (nat_cmp (generation_of h y) (generation_of h x)) (int_cmp (time_of h y) (time_of h x)) (slice_cmp nat_cmp x.0 y.0) e in
    same_id-true x y (texts_ties x.0 y.0 ∙ ap is_eq level)

true_not : (b : Bool) → b ≡ false → IsTrue b → ⊥
true_not b e h = cc

neither : (r s : Ordering) → r ≡ ordering_reverse s → (IsTrue (is_gt r) → ⊥) → (IsTrue (is_gt s) → ⊥) → r ≡ Equal
neither Less Less e f g = cc
neither Less Equal e f g = cc
neither Less Greater e f g = absurd (g refl)
neither Equal s e f g = refl
neither Greater s e f g = absurd (f refl)

-- of two ids neither of which is chosen after the other
pub choice-unique : (h : History) (x y : ObjectId) → (IsTrue (is_gt (choice h x y)) → ⊥) → (IsTrue (is_gt (choice h y x)) → ⊥) → x ≡ y
choice-unique h x y f g = choice-same h x y (neither (choice h x y) (choice h y x) ((choice_total h).antisymm x y) f g)

abbrev pub candidate_cmp : Candidate → Candidate → Ordering
candidate_cmp a b = ordering_then (key_order a.0 b.0) (slice_cmp nat_cmp b.1.0.0 a.1.0.0)

then_assoc : (p q r : Ordering) → ordering_then (ordering_then p q) r ≡ ordering_then p (ordering_then q r)
then_assoc Less q r = refl
then_assoc Equal q r = refl
then_assoc Greater q r = refl

-- of two commits the one that comes first has the greater candidate
pub greater_first : (h : History) (x b : ObjectId) → candidate_cmp (candidate_for h x) (candidate_for h b) ≡ choice h b x
greater_first h x b = then_assoc (nat_cmp (generation_of h x) (generation_of h b)) (int_cmp (time_of h x) (time_of h b)) (slice_cmp nat_cmp b.0 x.0)
