-- What the reading of a text is, by the mark that it begins with.
use Rattle.std.proofs.Common.{◌≡◌, ◌∙◌, ℕ, ◌==◌, List, [], ◌∷◌, Bool, true, false, Some, None, if◌then◌else◌, drop, refl}
use Rattle.gix_spec.specs.declared.spec.parse.fault.Fault.TheVariants.{AtWithoutBraces, TildeFirst}
use Rattle.gix_spec.specs.AtParts.{at_braces}
use Rattle.gix_spec.specs.Braces.{Braced}
use Rattle.gix_spec.specs.ColonForms.{colon_form}
use Rattle.gix_spec.specs.Found.{after_mark}
use Rattle.gix_spec.specs.Marks.{brace, starts_with}
use Rattle.gix_spec.specs.Names.{at_part, behind_at, without_name, head_at}
use Rattle.gix_spec.specs.Part.{Part, nothing, piece, refusal}
use Rattle.gix_spec.specs.Pieces.{head, path}
use Rattle.gix_spec.specs.Reading.{revision_at, named_revision}
use Rattle.gix_spec.specs.Steps.{step_at, ancestor_at, parent_at}
use Rattle.gix_spec.specs.Targets.{inside_target, marked_regex, regex_mark, peeled_to, target_named}

-- the mark stands there
behind : (b : Bool) (rest after : List ℕ) (f : List ℕ → Part) (other : Part) → (if b then Some rest else None) ≡ Some after → (if b then f rest else other) ≡ f after
behind true rest after f other h = cc
behind false rest after f other h = cc

-- it does not
without : (b : Bool) (rest : List ℕ) (p other : Part) → (if b then Some rest else None) ≡ None → (if b then p else other) ≡ other
without true rest p other h = cc
without false rest p other h = refl

-- an `@` behind a name
at_part-at : (own text after : List ℕ) → after_mark 64 text ≡ Some after → at_part own text ≡ behind_at own after text
unfolding at_part
at_part-at own [] after h = cc
at_part-at own (b ∷ rest) after h = behind (b == 64) rest after (λ x. behind_at own x (b ∷ rest)) (nothing (b ∷ rest)) h

pub at_part-none : (own text : List ℕ) → after_mark 64 text ≡ None → at_part own text ≡ nothing text
unfolding at_part
at_part-none own [] h = refl
at_part-none own (b ∷ rest) h = without (b == 64) rest (behind_at own rest (b ∷ rest)) (nothing (b ∷ rest)) h

pub at_part-braces : (own text after : List ℕ) → after_mark 64 text ≡ Some after → starts_with brace after ≡ true → at_part own text ≡ at_braces own after
at_part-braces own text after h k = at_part-at own text after h ∙ rw k refl

pub at_part-bare : (own text after : List ℕ) → after_mark 64 text ≡ Some after → starts_with brace after ≡ false → at_part own text ≡ refusal AtWithoutBraces (Some text)
at_part-bare own text after h k = at_part-at own text after h ∙ rw k refl

-- the same behind no name
without_name-at : (text after : List ℕ) → after_mark 64 text ≡ Some after → without_name text ≡ head_at after
unfolding without_name
without_name-at [] after h = cc
without_name-at (b ∷ rest) after h = behind (b == 64) rest after head_at (nothing (b ∷ rest)) h

pub without_name-none : (text : List ℕ) → after_mark 64 text ≡ None → without_name text ≡ nothing text
unfolding without_name
without_name-none [] h = refl
without_name-none (b ∷ rest) h = without (b == 64) rest (head_at rest) (nothing (b ∷ rest)) h

pub without_name-braces : (text after : List ℕ) → after_mark 64 text ≡ Some after → starts_with brace after ≡ true → without_name text ≡ at_braces [] after
without_name-braces text after h k = without_name-at text after h ∙ rw k refl

pub without_name-head : (text after : List ℕ) → after_mark 64 text ≡ Some after → starts_with brace after ≡ false → without_name text ≡ piece head after
without_name-head text after h k = without_name-at text after h ∙ rw k refl

-- a step
pub step_at-tilde : (text after : List ℕ) → after_mark 126 text ≡ Some after → step_at text ≡ ancestor_at after
unfolding step_at
step_at-tilde [] after h = cc
step_at-tilde (b ∷ rest) after h = behind (b == 126) rest after ancestor_at _ h

pub step_at-caret : (text after : List ℕ) → after_mark 126 text ≡ None → after_mark 94 text ≡ Some after → step_at text ≡ parent_at after
unfolding step_at
step_at-caret [] after h k = cc
step_at-caret (b ∷ rest) after h k = without (b == 126) rest (ancestor_at rest) _ h ∙ behind (b == 94) rest after parent_at _ k

pub step_at-colon : (text after : List ℕ) → after_mark 126 text ≡ None → after_mark 94 text ≡ None → after_mark 58 text ≡ Some after → step_at text ≡ piece (path after) []
unfolding step_at
step_at-colon [] after h k l = cc
step_at-colon (b ∷ rest) after h k l =
    without (b == 126) rest (ancestor_at rest) _ h ∙ (without (b == 94) rest (parent_at rest) _ k ∙ behind (b == 58) rest after (λ x. piece (path x) []) (nothing (b ∷ rest)) l)

pub step_at-none : (text : List ℕ) → after_mark 126 text ≡ None → after_mark 94 text ≡ None → after_mark 58 text ≡ None → step_at text ≡ nothing text
unfolding step_at
step_at-none [] h k l = refl
step_at-none (b ∷ rest) h k l =
    without (b == 126) rest (ancestor_at rest) _ h ∙ (without (b == 94) rest (parent_at rest) _ k ∙ without (b == 58) rest (piece (path rest) []) (nothing (b ∷ rest)) l)

-- a revision
pub revision_at-colon : (text after : List ℕ) → after_mark 58 text ≡ Some after → revision_at text ≡ colon_form after text
unfolding revision_at
revision_at-colon [] after h = cc
revision_at-colon (b ∷ rest) after h = behind (b == 58) rest after (λ x. colon_form x (b ∷ rest)) _ h

pub revision_at-tilde : (text after : List ℕ) → after_mark 58 text ≡ None → after_mark 126 text ≡ Some after → revision_at text ≡ refusal TildeFirst None
unfolding revision_at
revision_at-tilde [] after h k = cc
revision_at-tilde (b ∷ rest) after h k = without (b == 58) rest (colon_form rest (b ∷ rest)) _ h ∙ behind (b == 126) rest after (λ x. refusal TildeFirst None) _ k

pub revision_at-named : (text : List ℕ) → after_mark 58 text ≡ None → after_mark 126 text ≡ None → revision_at text ≡ named_revision text
unfolding revision_at
revision_at-named [] h k = refl
revision_at-named (b ∷ rest) h k = without (b == 58) rest (colon_form rest (b ∷ rest)) _ h ∙ without (b == 126) rest (refusal TildeFirst None) _ k

-- what braces behind a `^` hold
pub inside_target-regex : (meant more : List ℕ) (x : Braced) (after : List ℕ) → after_mark 47 meant ≡ Some more →
    inside_target meant x after ≡ marked_regex (drop 1 x.raw) more x.rest (regex_mark more)
inside_target-regex [] more x after h = cc
inside_target-regex (b ∷ rest) more x after h = behind (b == 47) rest more (λ y. marked_regex (drop 1 x.raw) y x.rest (regex_mark y)) (peeled_to (target_named (b ∷ rest)) x after) h

pub inside_target-peeled : (meant : List ℕ) (x : Braced) (after : List ℕ) → after_mark 47 meant ≡ None → inside_target meant x after ≡ peeled_to (target_named meant) x after
inside_target-peeled [] x after h = refl
inside_target-peeled (b ∷ rest) x after h = without (b == 47) rest (marked_regex (drop 1 x.raw) rest x.rest (regex_mark rest)) (peeled_to (target_named (b ∷ rest)) x after) h
