-- The steps of a text are its first step and the steps behind it.
use Rattle.std.proofs.Common.{◌≡◌, ◌⊎◌, inl, inr, ℕ, zero, suc, ◌+◌, ◌==◌, ◌^◌, ◌≤◌, List, [], ◌∷◌, Bool, true, false, Option, Some, None, if◌then◌else◌, length, drop, length-drop, Ok, sym, ◌∙◌, ap, refl, arith}
use Rattle.std.specs.Prelude.{nat_lt}
use Rattle.gix_spec.specs.declared.spec.parse.Error.{Error}
use Rattle.gix_spec.specs.declared.spec.parse.part.Way.TheVariants.{Onward, Closed}
use Rattle.gix_spec.specs.declared.spec.parse.part.Behind.{Behind}
use Rattle.gix_spec.specs.Call.{Call, Target}
use Rattle.gix_spec.specs.Answer.{Answer}
use Rattle.gix_spec.specs.Context.{Context}
use Rattle.gix_spec.specs.declared.spec.parse.part.Way.{Way as FoundWay}
use Rattle.gix_spec.specs.Found.{way_of}
use Rattle.gix_spec.specs.Number.{number_of}
use Rattle.gix_spec.specs.Part.{Part, Way, onward, closed, broken, nothing, joined, followed}
use Rattle.gix_spec.specs.Steps.{step_at, steps_at, navigation, ancestor_at, ancestor_by, ancestor_run, parent_at, parent_by, without_at, without_by, run_at}
use Rattle.gix_spec.specs.Braces.{Braced, close_of, braced_to, behind_escapes, braced_by, in_braces}
use Rattle.gix_spec.specs.Targets.{target_named, regex_mark, marked_regex, peeled_to, inside_target, target_braces}
use Rattle.gix_spec.specs.Performs.{Reads}

-- a part that reading goes on behind takes some of a text
abbrev Moves : (n : ℕ) → Part → Type 0
Moves n p = p.way ≡ onward → length p.rest ≤ n

if_moves : (n : ℕ) (b : Bool) (p q : Part) → Moves n p → Moves n q → Moves n (if b then p else q)
if_moves n true p q h k = h
if_moves n false p q h k = k

never : {A : Type 0} {v : Way} → v ≡ broken → v ≡ onward → A
never h k = cc

never_closed : {A : Type 0} {v : Way} → v ≡ closed → v ≡ onward → A
never_closed h k = cc

ancestor_by_moves : (n : ℕ) (run rest after : List ℕ) (o : Option ℕ) → length rest ≤ n → Moves n (ancestor_by run rest after o)
ancestor_by_moves n run rest after None h = λ e. never refl e
ancestor_by_moves n run rest after (Some m) h = λ e. h

ancestor_run_moves : (n : ℕ) (run rest after : List ℕ) → length rest ≤ n → length after ≤ n → Moves n (ancestor_run run rest after)
ancestor_run_moves n [] rest after h k = λ e. k
ancestor_run_moves n (b ∷ digits) rest after h k = ancestor_by_moves n (b ∷ digits) rest after (number_of (b ∷ digits)) h

parent_by_moves : (n : ℕ) (run rest after : List ℕ) (o : Option ℕ) → length rest ≤ n → Moves n (parent_by run rest after o)
parent_by_moves n run rest after None h = λ e. never refl e
parent_by_moves n run rest after (Some m) h = if_moves n (m == 0) _ _ (λ e. h) (if_moves n (nat_lt m (2 ^ 63)) _ _ (λ e. h) (λ e. never refl e))

without_by_moves : (n : ℕ) (run rest after : List ℕ) (o : Option ℕ) → Moves n (without_by run rest after o)
without_by_moves n run rest after None = λ e. never refl e
without_by_moves n run rest after (Some m) =
    if_moves n (m == 0) _ _ (λ e. never refl e) (if_moves n (nat_lt m (2 ^ 63)) _ _ (λ e. never_closed refl e) (λ e. never refl e))

without_at_moves : (n : ℕ) (digits run rest after : List ℕ) → Moves n (without_at digits run rest after)
unfolding without_at
without_at_moves n [] run rest after = λ e. never_closed refl e
without_at_moves n (b ∷ digits) run rest after = without_by_moves n run rest after (number_of (b ∷ digits))

run_at_moves : (n : ℕ) (run rest after : List ℕ) → length rest ≤ n → length after ≤ n → Moves n (run_at run rest after)
unfolding run_at
run_at_moves n [] rest after h k = λ e. k
run_at_moves n (b ∷ digits) rest after h k =
    if_moves n (b == 45) _ _ (without_at_moves n digits (b ∷ digits) rest after) (parent_by_moves n (b ∷ digits) rest after (number_of (b ∷ digits)) h)

-- braces, by what is left behind the pair
behind_moves : (n : ℕ) (escapes : Bool) (p : Part) → Moves n p → Moves n (behind_escapes escapes p)
behind_moves n true p h = h
behind_moves n false p h = h

pair_moves : (n : ℕ) (b : Bool) (x : Braced) (text : List ℕ) (reading : Braced → Part) → Moves n (reading x) → Moves n (braced_by (if b then Some x else None) text reading)
pair_moves n true x text reading h = behind_moves n x.escapes (reading x) h
pair_moves n false x text reading h = λ e. never refl e

braces_move : (n : ℕ) (text : List ℕ) (reading : Braced → Part) → Moves n (reading (braced_to text (close_of text))) → Moves n (in_braces text reading)
unfolding in_braces
braces_move n text reading h = pair_moves n (nat_lt (close_of text) (length text)) (braced_to text (close_of text)) text reading h

peeled_moves : (n : ℕ) (o : Option Target) (x : Braced) (after : List ℕ) → length x.rest ≤ n → Moves n (peeled_to o x after)
peeled_moves n None x after h = λ e. never refl e
peeled_moves n (Some target) x after h = λ e. h

regex_moves : (n : ℕ) (raw meant rest : List ℕ) (o : Option (ℕ × Bool)) → length rest ≤ n → Moves n (marked_regex raw meant rest o)
regex_moves n raw meant rest None h = λ e. never refl e
regex_moves n raw meant rest (Some mark) h = λ e. h

inside_moves : (n : ℕ) (meant : List ℕ) (x : Braced) (after : List ℕ) → length x.rest ≤ n → Moves n (inside_target meant x after)
inside_moves n [] x after h = peeled_moves n (target_named []) x after h
inside_moves n (b ∷ more) x after h =
    if_moves n (b == 47) _ _ (regex_moves n (drop 1 x.raw) more x.rest (regex_mark more) h) (peeled_moves n (target_named (b ∷ more)) x after h)

shorter : (k : ℕ) (text : List ℕ) → length (drop k text) ≤ length text
shorter k text = omega (arith, length-drop k text)

ancestor_at_moves : (after : List ℕ) → Moves (length after) (ancestor_at after)
unfolding ancestor_at
ancestor_at_moves after = if_moves (length after) _ _ _ (λ e. never refl e) (ancestor_run_moves (length after) _ _ after (shorter _ after) (omega arith))

target_moves : (after : List ℕ) → Moves (length after) (target_braces after)
unfolding target_braces
target_moves after =
    let x : Braced = braced_to after (close_of after) in
    braces_move (length after) after _ (inside_moves (length after) x.meant x after (shorter (close_of after + 1) after))

parent_at_moves : (after : List ℕ) → Moves (length after) (parent_at after)
unfolding parent_at
parent_at_moves [] = λ e. omega arith
parent_at_moves (b ∷ rest) =
    let n : ℕ = length (b ∷ rest) in
    if_moves n (b == 43) _ _ (λ e. never refl e)
    (if_moves n (b == 123) _ _ (target_moves (b ∷ rest))
    (if_moves n (b == 33) _ _ (λ e. never_closed refl e)
    (if_moves n (b == 64) _ _ (λ e. never_closed refl e) (run_at_moves n _ _ (b ∷ rest) (shorter _ (b ∷ rest)) (omega arith)))))

-- a step is none, or one that leaves less
abbrev IsStep : (text : List ℕ) → (n : ℕ) → Part → Type 0
IsStep text n p = (p ≡ nothing text) ⊎ Moves n p

if_step : (text : List ℕ) (n : ℕ) (b : Bool) (p q : Part) → IsStep text n p → IsStep text n q → IsStep text n (if b then p else q)
if_step text n true p q h k = h
if_step text n false p q h k = k

pub step_at-cases : (b : ℕ) (after : List ℕ) → IsStep (b ∷ after) (length after) (step_at (b ∷ after))
unfolding step_at
step_at-cases b after =
    if_step _ _ (b == 126) _ _ (inr (ancestor_at_moves after))
    (if_step _ _ (b == 94) _ _ (inr (parent_at_moves after))
    (if_step _ _ (b == 58) _ _ (inr (λ e. omega arith)) (inl refl)))

step_at-nil : step_at [] ≡ nothing []
unfolding step_at
step_at-nil = refl

-- none at all
steps_none : (n : ℕ) (text : List ℕ) → step_at text ≡ nothing text → steps_at n text ≡ nothing text
unfolding steps_at
steps_none zero text h = refl
steps_none (suc n) text h = rw (h, steps_none n text h) refl

joined_same : (v : Way) (p q r : Part) → (v ≡ onward → q ≡ r) → joined v p q ≡ joined v p r
joined_same onward p q r h = rw (h refl) refl
joined_same closed p q r h = refl
joined_same broken p q r h = refl

-- one step for each byte is enough
steps_both : (n j b : ℕ) (after : List ℕ) → IsStep (b ∷ after) (length after) (step_at (b ∷ after)) →
    ((rest : List ℕ) → length rest ≤ length after → steps_at n rest ≡ steps_at j rest) → steps_at (suc n) (b ∷ after) ≡ steps_at (suc j) (b ∷ after)
unfolding steps_at
steps_both n j b after (inl none) same = steps_none (suc n) (b ∷ after) none ∙ sym (steps_none (suc j) (b ∷ after) none)
steps_both n j b after (inr moves) same =
    joined_same (step_at (b ∷ after)).way (step_at (b ∷ after)) _ _ (λ e. same (step_at (b ∷ after)).rest (moves e))

steps_enough : (n j : ℕ) (text : List ℕ) → length text ≤ n → length text ≤ j → steps_at n text ≡ steps_at j text
steps_enough n j [] h k = steps_none n [] step_at-nil ∙ sym (steps_none j [] step_at-nil)
steps_enough zero j (b ∷ after) h k = absurd (omega arith)
steps_enough (suc n) zero (b ∷ after) h k = absurd (omega arith)
steps_enough (suc n) (suc j) (b ∷ after) h k =
    steps_both n j b after (step_at-cases b after) (λ rest less. steps_enough n j rest (omega arith) (omega arith))

-- where nothing steps, there are no steps
pub navigation-none : (text : List ℕ) → step_at text ≡ nothing text → navigation text ≡ nothing text
navigation-none text h = steps_none (length text) text h

followed_none : (text : List ℕ) (more : List ℕ → Part) → step_at text ≡ nothing text → more text ≡ nothing text → followed (step_at text) more ≡ nothing text
followed_none text more h k = rw (h, k) refl

-- a step, and the steps behind it
navigation_by : (b : ℕ) (after : List ℕ) → IsStep (b ∷ after) (length after) (step_at (b ∷ after)) → navigation (b ∷ after) ≡ followed (step_at (b ∷ after)) navigation
unfolding steps_at
navigation_by b after (inl none) =
    navigation-none (b ∷ after) none ∙ sym (followed_none (b ∷ after) navigation none (navigation-none (b ∷ after) none))
navigation_by b after (inr moves) =
    joined_same (step_at (b ∷ after)).way (step_at (b ∷ after)) _ _
    (λ e. steps_enough (length after) (length (step_at (b ∷ after)).rest) (step_at (b ∷ after)).rest (moves e) (omega arith))

pub navigation-step : (text : List ℕ) → navigation text ≡ followed (step_at text) navigation
navigation-step [] = navigation-none [] step_at-nil ∙ sym (followed_none [] navigation step_at-nil (navigation-none [] step_at-nil))
navigation-step (b ∷ after) = navigation_by b after (step_at-cases b after)

closed_alone : (v : Way) (p q : Part) → v ≡ closed → joined v p q ≡ p
closed_alone onward p q h = cc
closed_alone closed p q h = refl
closed_alone broken p q h = refl

-- behind a closer no step is read
closed_there : (text : List ℕ) → (step_at text).way ≡ closed → navigation text ≡ step_at text
closed_there text h = navigation-step text ∙ closed_alone (step_at text).way (step_at text) _ h

module _ {S : Type 0} (by : S → Call → Answer → S → Type 0) where
  ends_way : (b : ℕ) (after : List ℕ) (w : FoundWay) {m n : Context} {s u : S} {x : Behind} {error : Option Error} → x.way ≡ w → Moves (length after) (step_at (b ∷ after)) →
      Reads by (step_at (b ∷ after)) s m u n (Ok x) error → (x.way ≡ Onward → length (b ∷ after) ≤ length x.rest.now) → Reads by (navigation (b ∷ after)) s m u n (Ok x) error
  ends_way b after Closed e moves f h = rw (closed_there (b ∷ after) (sym f.behind.1 ∙ ap way_of e)) f
  ends_way b after Onward {x} e moves f h =
      let less : length (step_at (b ∷ after)).rest ≤ length after = moves (sym f.behind.1 ∙ ap way_of e) in
      let more : length (b ∷ after) ≤ length x.rest.now = h e in
      let same : length x.rest.now ≡ length (step_at (b ∷ after)).rest = ap length f.behind.0 in absurd (omega arith)

  -- a step that ends the steps: a closer, or one that takes no byte
  ends_by : (b : ℕ) (after : List ℕ) {m n : Context} {s u : S} {x : Behind} {error : Option Error} → IsStep (b ∷ after) (length after) (step_at (b ∷ after)) →
      Reads by (step_at (b ∷ after)) s m u n (Ok x) error → (x.way ≡ Onward → length (b ∷ after) ≤ length x.rest.now) → Reads by (navigation (b ∷ after)) s m u n (Ok x) error
  ends_by b after (inl none) f h = rw (navigation-none (b ∷ after) none, ← none) f
  ends_by b after {x} (inr moves) f h = ends_way b after x.way refl moves f h

  pub navigation_ends : (text : List ℕ) {m n : Context} {s u : S} {x : Behind} {error : Option Error} →
      Reads by (step_at text) s m u n (Ok x) error → (x.way ≡ Onward → length text ≤ length x.rest.now) → Reads by (navigation text) s m u n (Ok x) error
  navigation_ends [] f h = rw (navigation-none [] step_at-nil, ← step_at-nil) f
  navigation_ends (b ∷ after) f h = ends_by b after (step_at-cases b after) f h
