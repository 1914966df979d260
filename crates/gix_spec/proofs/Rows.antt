-- Each reader's part is sound, and its pieces end as its way on says.
use Rattle.std.proofs.Common.{◌≡◌, ℕ, zero, suc, ◌+◌, ◌==◌, ◌-◌, ◌^◌, List, [], ◌∷◌, Bool, true, false, if◌then◌else◌, Option, Some, None, length, take, drop, ◌≤◌, refl, subst, arith}
use Rattle.std.specs.Prelude.{nat_lt, nat_le}
use Rattle.std.proofs.lemmas.Bool.{lt-ltb, leb-true, le-leb}
use Rattle.gix_spec.specs.declared.spec.parse.fault.Fault.{Fault}
use Rattle.gix_spec.specs.declared.spec.parse.delegate.SiblingBranch.{SiblingBranch}
use Rattle.gix_spec.specs.Call.{Target}
use Rattle.gix_spec.specs.Number.{number_of, Signed, minus, plain, signed_of}
use Rattle.gix_spec.specs.Sibling.{sibling_of}
use Rattle.gix_spec.specs.Pieces.{Piece, unescaped}
use Rattle.gix_spec.specs.Braces.{Braced, close_of, braced_to, behind_escapes, braced_by, in_braces}
use Rattle.gix_spec.specs.AtParts.{branch_at, number_at, word_at, inside_at, at_braces}
use Rattle.gix_spec.specs.Targets.{target_named, regex_mark, marked_regex, peeled_to, inside_target, target_braces}
use Rattle.gix_spec.specs.Part.{Part, Way, onward, closed, broken, nothing, piece, closing, refusal, joined, followed}
use Rattle.gix_spec.specs.Cut.{cut_of}
use Rattle.gix_spec.specs.Names.{at_part, without_name, anchor_by, anchor_at}
use Rattle.gix_spec.specs.Steps.{ancestor_by, ancestor_run, ancestor_at, parent_by, without_by, without_at, run_at, parent_at, step_at, steps_at, navigation}
use Rattle.gix_spec.specs.ColonForms.{negated_regex, banged, regex_at, is_stage, staged, index_at, colon_form}
use Rattle.gix_spec.specs.Reading.{named_revision, revision_at}
use Rattle.gix_spec.specs.Written.{is_fault}
use Rattle.gix_spec.proofs.Sound.{Within, within_none, within_tail, within_drop, within_take, GivenWithin, HasEscape, second_true, escape_within, escape_there, IsSound, AllSound, sound_append}
use Rattle.gix_spec.proofs.Ending.{called_after, EndsBy, ends_join}

pub record IsGood (text : List ℕ) (p : Part) : Type 0 where
  pub sound : AllSound text p.pieces
  pub rest : Within p.rest text
  pub ends : EndsBy p.way p.pieces

good_nothing : (w text : List ℕ) → Within text w → IsGood w (nothing text)
good_nothing w text h = record { sound = tt; rest = h; ends = tt }

good_piece : (w : List ℕ) (q : Piece) (rest : List ℕ) → IsSound w q → is_fault q ≡ false → Within rest w → IsGood w (piece q rest)
good_piece w q rest h k r = record { sound = (h, tt); rest = r; ends = (k, tt) }

good_closing : (w : List ℕ) (q : Piece) (rest : List ℕ) → IsSound w q → is_fault q ≡ false → ((b : Bool) → called_after b q ≡ Some true) → Within rest w → IsGood w (closing q rest)
good_closing w q rest h k e r = record { sound = (h, tt); rest = r; ends = ((k, tt), λ b qs ends. rw (e b) ends) }

good_refusal : (w : List ℕ) (f : Fault) (input : Option (List ℕ)) → GivenWithin input w → IsGood w (refusal f input)
good_refusal w f input h = record { sound = (h, tt); rest = within_none w; ends = ((λ e. refl, tt), λ b. tt) }

good_if : (w : List ℕ) (b : Bool) (p q : Part) → IsGood w p → IsGood w q → IsGood w (if b then p else q)
good_if w true p q h k = h
good_if w false p q h k = k

good_where : (w : List ℕ) (b : Bool) (p q : Part) → (b ≡ true → IsGood w p) → (b ≡ false → IsGood w q) → IsGood w (if b then p else q)
good_where w true p q h k = h refl
good_where w false p q h k = k refl

joined_good : (w : List ℕ) (v : Way) (p q : Part) → p.way ≡ v → IsGood w p → IsGood w q → IsGood w (joined v p q)
joined_good w onward p q e h k = record {
  sound = sound_append w p.pieces q.pieces h.sound k.sound;
  rest = k.rest;
  ends = ends_join q.way p.pieces q.pieces (subst (λ v. EndsBy v p.pieces) e h.ends) k.ends;
}
joined_good w closed p q e h k = h
joined_good w broken p q e h k = h

good_followed : (w : List ℕ) (p : Part) (more : List ℕ → Part) → IsGood w p → ((rest : List ℕ) → Within rest w → IsGood w (more rest)) → IsGood w (followed p more)
good_followed w p more h k = joined_good w p.way p (more p.rest) refl h (k p.rest h.rest)

-- numbers
positive : (n : ℕ) → (n == 0) ≡ false → nat_lt 0 n ≡ true
positive zero h = cc
positive (suc n) h = lt-ltb 0 (suc n) (omega arith)

ancestor_by_good : (w run rest after : List ℕ) (o : Option ℕ) → Within run w → Within rest w → Within after w → IsGood w (ancestor_by run rest after o)
ancestor_by_good w run rest after None h k l = good_refusal w _ _ h
ancestor_by_good w run rest after (Some n) h k l = good_piece w _ _ l refl k

ancestor_run_good : (w run rest after : List ℕ) → Within run w → Within rest w → Within after w → IsGood w (ancestor_run run rest after)
ancestor_run_good w [] rest after h k l = good_piece w _ _ l refl l
ancestor_run_good w (b ∷ digits) rest after h k l = ancestor_by_good w (b ∷ digits) rest after (number_of (b ∷ digits)) h k l

ancestor_at_good : (w after : List ℕ) → Within after w → IsGood w (ancestor_at after)
unfolding ancestor_at
ancestor_at_good w after h = good_if w _ _ _ (good_refusal w _ _ h) (ancestor_run_good w _ _ after (within_take _ after w h) (within_drop _ after w h) h)

parent_by_good : (w run rest after : List ℕ) (o : Option ℕ) → Within run w → Within rest w → Within after w → IsGood w (parent_by run rest after o)
parent_by_good w run rest after None h k l = good_refusal w _ _ h
parent_by_good w run rest after (Some n) h k l =
    good_where w (n == 0) _ _ (λ e. good_piece w _ _ l refl k)
    (λ e. good_if w (nat_lt n (2 ^ 63)) _ _ (good_piece w _ _ (l, positive n e) refl k) (good_refusal w _ _ h))

without_by_good : (w run rest after : List ℕ) (o : Option ℕ) → Within run w → Within rest w → Within after w → IsGood w (without_by run rest after o)
without_by_good w run rest after None h k l = good_refusal w _ _ h
without_by_good w run rest after (Some n) h k l =
    good_where w (n == 0) _ _ (λ e. good_refusal w _ _ h)
    (λ e. good_if w (nat_lt n (2 ^ 63)) _ _ (good_closing w _ _ (l, k, positive n e) refl (λ b. refl) k) (good_refusal w _ _ h))

without_at_good : (w digits run rest after : List ℕ) → Within run w → Within rest w → Within after w → IsGood w (without_at digits run rest after)
unfolding without_at
without_at_good w [] run rest after h k l = good_closing w _ _ (l, k, refl) refl (λ b. refl) k
without_at_good w (b ∷ digits) run rest after h k l = without_by_good w run rest after (number_of (b ∷ digits)) h k l

run_at_good : (w run rest after : List ℕ) → Within run w → Within rest w → Within after w → IsGood w (run_at run rest after)
unfolding run_at
run_at_good w [] rest after h k l = good_piece w _ _ (l, refl) refl l
run_at_good w (b ∷ digits) rest after h k l =
    good_if w (b == 45) _ _ (without_at_good w digits (b ∷ digits) rest after h k l) (parent_by_good w (b ∷ digits) rest after (number_of (b ∷ digits)) h k l)

-- braces
good_escapes : (w : List ℕ) (escapes : Bool) (p : Part) → (escapes ≡ true → HasEscape w) → IsGood w p → IsGood w (behind_escapes escapes p)
good_escapes w true p e h = record { sound = (e refl, h.sound); rest = h.rest; ends = ends_join p.way (unescaped ∷ []) p.pieces (refl, tt) h.ends }
good_escapes w false p e h = h

good_pair : (w : List ℕ) (b : Bool) (x : Braced) (text : List ℕ) (reading : Braced → Part) → Within text w → (x.escapes ≡ true → HasEscape w) → IsGood w (reading x) →
    IsGood w (braced_by (if b then Some x else None) text reading)
good_pair w true x text reading h e k = good_escapes w x.escapes (reading x) e k
good_pair w false x text reading h e k = good_refusal w _ _ h

-- what stands in braces, of a text whose parts are parts of w
good_braces : (w text : List ℕ) (reading : Braced → Part) → Within text w → ((x : Braced) → Within x.raw w → Within x.rest w → IsGood w (reading x)) → IsGood w (in_braces text reading)
unfolding in_braces
good_braces w text reading h k =
    let n : ℕ = close_of text in
    good_pair w (nat_lt n (length text)) (braced_to text n) text reading h (λ e. escape_within text w h (escape_there text (n + 1) e))
    (k (braced_to text n) (within_take (n - 1) (drop 1 text) w (within_drop 1 text w h)) (within_drop (n + 1) text w h))

peeled_good : (w : List ℕ) (o : Option Target) (x : Braced) (after : List ℕ) → Within after w → Within x.raw w → Within x.rest w → IsGood w (peeled_to o x after)
peeled_good w None x after h k l = good_refusal w _ _ k
peeled_good w (Some target) x after h k l = good_piece w _ _ h refl l

marked_good : (w raw meant rest : List ℕ) (o : Option (ℕ × Bool)) → Within raw w → Within rest w → IsGood w (marked_regex raw meant rest o)
marked_good w raw meant rest None h k = good_refusal w _ _ h
marked_good w raw meant rest (Some mark) h k = good_piece w _ _ (within_drop mark.0 raw w h) refl k

inside_target_good : (w meant : List ℕ) (x : Braced) (after : List ℕ) → Within after w → Within x.raw w → Within x.rest w → IsGood w (inside_target meant x after)
inside_target_good w [] x after h k l = peeled_good w (target_named []) x after h k l
inside_target_good w (b ∷ more) x after h k l =
    good_if w (b == 47) _ _ (marked_good w (drop 1 x.raw) more x.rest (regex_mark more) (within_drop 1 x.raw w k) l) (peeled_good w (target_named (b ∷ more)) x after h k l)

target_good : (w after : List ℕ) → Within after w → IsGood w (target_braces after)
unfolding target_braces
target_good w after h = good_braces w after _ h (λ x k l. inside_target_good w x.meant x after h k l)

branch_good : (w own : List ℕ) (n : ℕ) (x : Braced) → nat_lt 0 n ≡ true → Within x.raw w → Within x.rest w → IsGood w (branch_at own n x)
branch_good w [] n x e k l = good_piece w _ _ (k, e) refl l
branch_good w (b ∷ name) n x e k l = good_refusal w _ _ k

number_good : (w own : List ℕ) (number : Signed) (x : Braced) → Within own w → Within x.raw w → Within x.rest w → IsGood w (number_at own number x)
number_good w own (minus n) x h k l = good_where w (n == 0) _ _ (λ e. good_refusal w _ _ k) (λ e. branch_good w own n x (positive n e) k l)
number_good w own (plain n) x h k l = good_piece w _ _ (h, k) refl l

word_good : (w own : List ℕ) (o : Option SiblingBranch) (x : Braced) → Within own w → Within x.raw w → Within x.rest w → IsGood w (word_at own o x)
word_good w own None x h k l = good_piece w _ _ (h, k) refl l
word_good w own (Some which) x h k l = good_piece w _ _ (h, k) refl l

inside_good : (w own : List ℕ) (o : Option Signed) (x : Braced) → Within own w → Within x.raw w → Within x.rest w → IsGood w (inside_at own o x)
inside_good w own None x h k l = word_good w own (sibling_of x.meant) x h k l
inside_good w own (Some number) x h k l = number_good w own number x h k l

at_braces_good : (w own text : List ℕ) → Within own w → Within text w → IsGood w (at_braces own text)
unfolding at_braces
at_braces_good w own text h k = good_braces w text _ k (λ x r l. inside_good w own (signed_of x.meant) x h r l)

parent_at_good : (w after : List ℕ) → Within after w → IsGood w (parent_at after)
unfolding parent_at
parent_at_good w [] h = good_piece w _ _ (h, refl) refl h
parent_at_good w (b ∷ rest) h =
    let r : Within rest w = within_tail b rest w h in
    good_if w (b == 43) _ _ (good_refusal w _ _ h)
    (good_if w (b == 123) _ _ (target_good w (b ∷ rest) h)
    (good_if w (b == 33) _ _ (good_closing w _ _ r refl (λ c. refl) r)
    (good_if w (b == 64) _ _ (good_closing w _ _ r refl (λ c. refl) r)
    (run_at_good w _ _ (b ∷ rest) (within_take _ (b ∷ rest) w h) (within_drop _ (b ∷ rest) w h) h))))

step_at_good : (w text : List ℕ) → Within text w → IsGood w (step_at text)
unfolding step_at
step_at_good w [] h = good_nothing w [] h
step_at_good w (b ∷ after) h =
    let r : Within after w = within_tail b after w h in
    good_if w (b == 126) _ _ (ancestor_at_good w after r)
    (good_if w (b == 94) _ _ (parent_at_good w after r)
    (good_if w (b == 58) _ _ (good_piece w _ _ r refl (within_none w)) (good_nothing w (b ∷ after) h)))

steps_at_good : (n : ℕ) (w text : List ℕ) → Within text w → IsGood w (steps_at n text)
unfolding steps_at
steps_at_good zero w text h = good_nothing w text h
steps_at_good (suc n) w text h = good_followed w (step_at text) (steps_at n) (step_at_good w text h) (λ rest k. steps_at_good n w rest k)

-- names
at_part_good : (w own text : List ℕ) → Within own w → Within text w → IsGood w (at_part own text)
unfolding at_part
at_part_good w own [] k h = good_nothing w [] h
at_part_good w own (b ∷ after) k h =
    good_if w (b == 64) _ _ (good_if w _ _ _ (at_braces_good w own after k (within_tail b after w h)) (good_refusal w _ _ h)) (good_nothing w (b ∷ after) h)

without_name_good : (w text : List ℕ) → Within text w → IsGood w (without_name text)
unfolding without_name
without_name_good w [] h = good_nothing w [] h
without_name_good w (b ∷ after) h =
    let r : Within after w = within_tail b after w h in
    good_if w (b == 64) _ _ (good_if w _ _ _ (at_braces_good w [] after (within_none w) r) (good_piece w _ _ tt refl r)) (good_nothing w (b ∷ after) h)

anchor_by_good : (w text : List ℕ) (n : ℕ) → Within text w → IsGood w (anchor_by text n)
anchor_by_good w text zero h = without_name_good w text h
anchor_by_good w text (suc n) h =
    good_followed w _ (at_part (take (suc n) text)) (good_piece w _ _ h refl (within_drop (suc n) text w h)) (λ rest k. at_part_good w (take (suc n) text) rest (within_take (suc n) text w h) k)

anchor_at_good : (w text : List ℕ) → Within text w → IsGood w (anchor_at text)
unfolding anchor_at
anchor_at_good w text h = anchor_by_good w text (cut_of text) h

-- colon forms
negated_good : (w raw whole : List ℕ) → Within raw w → Within whole w → IsGood w (negated_regex raw whole)
negated_good w [] whole h k = good_refusal w _ _ k
negated_good w (b ∷ rest) whole h k = good_piece w _ _ h refl (within_none w)

banged_good : (w after raw whole : List ℕ) → Within after w → Within raw w → Within whole w → IsGood w (banged after raw whole)
unfolding banged
banged_good w [] raw whole h k l = good_refusal w _ _ k
banged_good w (b ∷ rest) raw whole h k l =
    good_if w (b == 45) _ _ (negated_good w rest whole (within_tail b rest w h) l)
    (good_if w (b == 33) _ _ (good_piece w _ _ h refl (within_none w)) (good_refusal w _ _ k))

regex_good : (w raw whole : List ℕ) → Within raw w → Within whole w → IsGood w (regex_at raw whole)
unfolding regex_at
regex_good w [] whole h k = good_refusal w _ _ tt
regex_good w (b ∷ rest) whole h k =
    good_if w (b == 33) _ _ (banged_good w rest (b ∷ rest) whole (within_tail b rest w h) h k) (good_piece w _ _ h refl (within_none w))

staged_good : (w : List ℕ) (b : ℕ) (p whole : List ℕ) → Within p w → Within whole w → IsGood w (staged b p whole)
staged_good w b p whole h k =
    good_where w (is_stage b) _ _
    (λ e. let most : b ≤ 51 = leb-true b 51 (second_true (nat_le 48 b) (nat_le b 51) e) in good_piece w _ _ (h, le-leb (b - 48) 3 (omega arith)) refl (within_none w))
    (λ e. good_piece w _ _ (k, refl) refl (within_none w))

index_good : (w : List ℕ) (b : ℕ) (rest whole : List ℕ) → Within rest w → Within whole w → IsGood w (index_at b rest whole)
index_good w b [] whole h k = good_piece w _ _ (k, refl) refl (within_none w)
index_good w b (c ∷ p) whole h k =
    good_if w (c == 58) _ _ (staged_good w b p whole (within_tail c p w h) k) (good_piece w _ _ (k, refl) refl (within_none w))

colon_good : (w after whole : List ℕ) → Within after w → Within whole w → IsGood w (colon_form after whole)
unfolding colon_form
colon_good w [] whole h k = good_refusal w _ _ tt
colon_good w (b ∷ rest) whole h k =
    let r : Within rest w = within_tail b rest w h in good_if w (b == 47) _ _ (regex_good w rest whole r k) (index_good w b rest (b ∷ rest) r h)

named_good : (w text : List ℕ) → Within text w → IsGood w (named_revision text)
named_good w text h = good_followed w (anchor_at text) navigation (anchor_at_good w text h) (λ rest k. steps_at_good (length rest) w rest k)

pub revision_good : (w text : List ℕ) → Within text w → IsGood w (revision_at text)
unfolding revision_at
revision_good w [] h = named_good w [] h
revision_good w (b ∷ after) h =
    good_if w (b == 58) _ _ (colon_good w after (b ∷ after) (within_tail b after w h) h)
    (good_if w (b == 126) _ _ (good_refusal w _ _ tt) (named_good w (b ∷ after) h))
