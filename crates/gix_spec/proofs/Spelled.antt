-- The pieces of each reader's part spell the text that it read.
use Rattle.std.proofs.Common.{◌≡◌, ◌⊎◌, inl, inr, ℕ, zero, suc, ◌+◌, ◌==◌, ◌-◌, ◌^◌, List, [], ◌∷◌, ◌++◌, Bool, true, false, cond, if◌then◌else◌, Option, Some, None, length, take, drop, ◌≤◌, refl, sym, ◌∙◌, ap, subst, arith, append_assoc, append-nil}
use Rattle.std.specs.Prelude.{codes, nat_lt, nat_le}
use Rattle.std.specs.Char.{is_ascii_digit}
use Rattle.std.specs.List.{prefix_len}
use Rattle.std.specs.Cmp.Lexicographic.{same_text}
use Rattle.std.proofs.lemmas.Bool.{eqb-true, leb-true, ltb-true}
use Rattle.std.proofs.lemmas.List.{take-append-drop}
use Rattle.gix_spec.specs.declared.spec.Kind.{Kind}
use Rattle.gix_spec.specs.declared.spec.parse.fault.Fault.{Fault}
use Rattle.gix_spec.specs.declared.spec.parse.delegate.SiblingBranch.{SiblingBranch}
use Rattle.gix_base.specs.declared.object.Kind.TheVariants.{Commit}
use Rattle.gix_spec.specs.declared.spec.parse.delegate.Traversal.TheVariants.{NthParent}
use Rattle.gix_spec.specs.declared.spec.parse.fault.Fault.TheVariants.{Number}
use Rattle.gix_spec.specs.Call.{Target, object}
use Rattle.gix_spec.specs.Sibling.{sibling_of}
use Rattle.gix_spec.specs.Braces.{Braced, close_of, braced_to, behind_escapes, braced_by, in_braces}
use Rattle.gix_date.specs.Date.{date_of}
use Rattle.gix_spec.specs.AtParts.{time_of, branch_at, number_at, word_at, inside_at, at_braces}
use Rattle.gix_spec.specs.Targets.{target_named, banged_mark, regex_mark, marked_regex, peeled_to, inside_target, target_braces}
use Rattle.gix_spec.specs.Cut.{cut_of}
use Rattle.gix_spec.specs.Names.{at_part, without_name, anchor_by, anchor_at}
use Rattle.gix_spec.specs.ColonForms.{negated_regex, banged, regex_at, is_stage, staged, index_at, colon_form}
use Rattle.gix_spec.specs.Reading.{named_revision, revision_at, begins, range_mark, end_at, closed_end, unless_broken, second_side, ranged, after_first, sides_at, excluded_at, pieces_of}
use Rattle.gix_spec.specs.Marks.{tilde, caret, colon, at_sign, brace, dash, plus, slash, bang, starts_with, run_of}
use Rattle.gix_spec.specs.Number.{digits_number, number_of, Signed, minus, plain, signed_of}
use Rattle.gix_spec.specs.Pieces.{Piece, head, range, step, peel}
use Rattle.gix_spec.specs.Part.{Part, Way, onward, closed, broken, nothing, piece, closing, refusal, joined, followed}
use Rattle.gix_spec.specs.Steps.{ancestor_by, ancestor_run, ancestor_at, parent_by, without_by, without_at, run_at, is_digit_or_minus, parent_at, step_at, steps_at, navigation}
use Rattle.gix_spec.specs.Written.{meant_in, IsRegex, IsRegexIn, IsWritten, Spells}
use Rattle.gix_spec.specs.Ends.{PiecesSpell}
use Rattle.gix_spec.proofs.Places.{not_both}
use Rattle.gix_spec.proofs.Sound.{first_true}
use Rattle.gix_spec.proofs.PairText.{OpensWith, Holds, holds_pair}

-- the pieces of a part spell a text up to what it leaves, and a part that was a fault leaves nothing
pub record IsSpelled (text : List ℕ) (p : Part) : Type 0 where
  pub spells : Spells p.pieces text p.rest
  pub over : p.way ≡ broken → p.rest ≡ []

spells_append : (ps qs : List Piece) (text middle rest : List ℕ) → Spells ps text middle → Spells qs middle rest → Spells (ps ++ qs) text rest
spells_append [] qs text middle rest h k = rw h k
spells_append (p ∷ ps) qs text middle rest h k = (h.0, h.1, h.2, h.3, spells_append ps qs h.1 middle rest h.4 k)

spelled_nothing : (text : List ℕ) → IsSpelled text (nothing text)
spelled_nothing text = record { spells = refl; over = λ e. cc }

spelled_piece : (q : Piece) (text own rest : List ℕ) → text ≡ own ++ rest → IsWritten q own → IsSpelled text (piece q rest)
spelled_piece q text own rest h k = record { spells = (own, rest, h, k, refl); over = λ e. cc }

spelled_closing : (q : Piece) (text own rest : List ℕ) → text ≡ own ++ rest → IsWritten q own → IsSpelled text (closing q rest)
spelled_closing q text own rest h k = record { spells = (own, rest, h, k, refl); over = λ e. cc }

spelled_refusal : (text : List ℕ) (f : Fault) (input : Option (List ℕ)) → IsSpelled text (refusal f input)
spelled_refusal text f input = record { spells = (text, [], sym (append-nil text), tt, refl); over = λ e. refl }

spelled_if : (text : List ℕ) (b : Bool) (p q : Part) → IsSpelled text p → IsSpelled text q → IsSpelled text (if b then p else q)
spelled_if text true p q h k = h
spelled_if text false p q h k = k

spelled_where : (text : List ℕ) (b : Bool) (p q : Part) → (b ≡ true → IsSpelled text p) → (b ≡ false → IsSpelled text q) → IsSpelled text (if b then p else q)
spelled_where text true p q h k = h refl
spelled_where text false p q h k = k refl

joined_spelled : (text : List ℕ) (v : Way) (p q : Part) → IsSpelled text p → IsSpelled p.rest q → IsSpelled text (joined v p q)
joined_spelled text onward p q h k = record { spells = spells_append p.pieces q.pieces text p.rest q.rest h.spells k.spells; over = k.over }
joined_spelled text closed p q h k = h
joined_spelled text broken p q h k = h

spelled_followed : (text : List ℕ) (p : Part) (more : List ℕ → Part) → IsSpelled text p → ((rest : List ℕ) → IsSpelled rest (more rest)) → IsSpelled text (followed p more)
spelled_followed text p more h k = joined_spelled text p.way p (more p.rest) h (k p.rest)

-- no byte of a run is a plus, where none passes that is one
abbrev NoPlus : List ℕ → Type 0
NoPlus [] = Unit {0}
NoPlus (b ∷ bs) = ((b == plus) ≡ false) × NoPlus bs

no_plus : (test : ℕ → Bool) (b : ℕ) (is_plus : Bool) → (b == plus) ≡ is_plus → test plus ≡ false → test b ≡ true → is_plus ≡ false
no_plus test b true e fails passes = let same : b ≡ plus = eqb-true b plus e in absurd (not_both (test plus) (subst (λ c. test c ≡ true) same passes) fails)
no_plus test b false e fails passes = refl

run_where : (test : ℕ → Bool) (b : ℕ) (bs : List ℕ) (passes : Bool) → test b ≡ passes → test plus ≡ false → NoPlus (run_of test bs) → NoPlus (take (cond passes (1 + prefix_len test bs) 0) (b ∷ bs))
run_where test b bs true e fails h =
    let one : suc (prefix_len test bs) ≡ 1 + prefix_len test bs = omega arith in subst (λ n. NoPlus (take n (b ∷ bs))) one (no_plus test b (b == plus) refl fails e, h)
run_where test b bs false e fails h = tt

run_unsigned : (test : ℕ → Bool) → test plus ≡ false → (text : List ℕ) → NoPlus (run_of test text)
run_unsigned test fails [] = tt
run_unsigned test fails (b ∷ bs) = run_where test b bs (test b) refl fails (run_unsigned test fails bs)

-- then the number is that of the digits
unsigned_number : (b : ℕ) (digits : List ℕ) (n : ℕ) → (b == plus) ≡ false → number_of (b ∷ digits) ≡ Some n → digits_number (b ∷ digits) ≡ Some n
unfolding number_of
unsigned_number b digits n e h = sym (ap (λ (p : Bool). digits_number (drop (cond p 1 0) (b ∷ digits))) e) ∙ h

-- `~n`
ancestor_by_spelled : (b : ℕ) (digits rest after : List ℕ) (o : Option ℕ) → after ≡ b ∷ (digits ++ rest) → (b == plus) ≡ false → number_of (b ∷ digits) ≡ o →
    IsSpelled (tilde ∷ after) (ancestor_by (b ∷ digits) rest after o)
ancestor_by_spelled b digits rest after None h e k = spelled_refusal _ _ _
ancestor_by_spelled b digits rest after (Some n) h e k =
    spelled_piece _ _ (tilde ∷ b ∷ digits) rest (ap (λ xs. tilde ∷ xs) h) (b ∷ digits, refl, unsigned_number b digits n e k)

ancestor_run_spelled : (run rest after : List ℕ) → after ≡ run ++ rest → NoPlus run → IsSpelled (tilde ∷ after) (ancestor_run run rest after)
ancestor_run_spelled [] rest after h e = spelled_piece _ _ (tilde ∷ []) after refl ([], refl, refl)
ancestor_run_spelled (b ∷ digits) rest after h e = ancestor_by_spelled b digits rest after (number_of (b ∷ digits)) h e.0 refl

ancestor_at_spelled : (after : List ℕ) → IsSpelled (tilde ∷ after) (ancestor_at after)
unfolding ancestor_at
ancestor_at_spelled after =
    spelled_if _ _ _ _ (spelled_refusal _ _ _) (ancestor_run_spelled _ _ after (sym (take-append-drop _ after)) (run_unsigned is_ascii_digit refl after))

-- `^n`
parent_number_spelled : (b : ℕ) (digits rest after : List ℕ) (n : ℕ) → after ≡ b ∷ (digits ++ rest) → digits_number (b ∷ digits) ≡ Some n →
    (zero : Bool) → (n == 0) ≡ zero → (fits : Bool) →
    IsSpelled (caret ∷ after) (if zero then piece (peel (object Commit) after) rest else if fits then piece (step (NthParent n) after) rest else refusal Number (Some (b ∷ digits)))
parent_number_spelled b digits rest after n h k true e fits =
    spelled_piece _ _ (caret ∷ b ∷ digits) rest (ap (λ xs. caret ∷ xs) h) (inr (refl, (b ∷ digits, refl, k ∙ ap Some (eqb-true n 0 e))))
parent_number_spelled b digits rest after n h k false e true = spelled_piece _ _ (caret ∷ b ∷ digits) rest (ap (λ xs. caret ∷ xs) h) (b ∷ digits, refl, k)
parent_number_spelled b digits rest after n h k false e false = spelled_refusal _ _ _

parent_by_spelled : (b : ℕ) (digits rest after : List ℕ) (o : Option ℕ) → after ≡ b ∷ (digits ++ rest) → (b == plus) ≡ false → number_of (b ∷ digits) ≡ o →
    IsSpelled (caret ∷ after) (parent_by (b ∷ digits) rest after o)
parent_by_spelled b digits rest after None h e k = spelled_refusal _ _ _
parent_by_spelled b digits rest after (Some n) h e k =
    parent_number_spelled b digits rest after n h (unsigned_number b digits n e k) (n == 0) refl (nat_lt n (2 ^ 63))

-- `^-n`
without_by_spelled : (b : ℕ) (digits run rest after : List ℕ) (o : Option ℕ) → after ≡ dash ∷ b ∷ (digits ++ rest) → (b == plus) ≡ false → number_of (b ∷ digits) ≡ o →
    IsSpelled (caret ∷ after) (without_by run rest after o)
without_by_spelled b digits run rest after None h e k = spelled_refusal _ _ _
without_by_spelled b digits run rest after (Some n) h e k =
    spelled_if _ (n == 0) _ _ (spelled_refusal _ _ _)
    (spelled_if _ (nat_lt n (2 ^ 63)) _ _
    (spelled_closing _ _ (caret ∷ dash ∷ b ∷ digits) rest (ap (λ xs. caret ∷ xs) h) (b ∷ digits, refl, unsigned_number b digits n e k))
    (spelled_refusal _ _ _))

without_at_spelled : (digits run rest after : List ℕ) → after ≡ dash ∷ (digits ++ rest) → NoPlus digits → IsSpelled (caret ∷ after) (without_at digits run rest after)
unfolding without_at
without_at_spelled [] run rest after h e = spelled_closing _ _ (caret ∷ dash ∷ []) rest (ap (λ xs. caret ∷ xs) h) ([], refl, refl)
without_at_spelled (b ∷ digits) run rest after h e = without_by_spelled b digits run rest after (number_of (b ∷ digits)) h e.0 refl

run_at_spelled : (run rest after : List ℕ) → after ≡ run ++ rest → NoPlus run → IsSpelled (caret ∷ after) (run_at run rest after)
unfolding run_at
run_at_spelled [] rest after h e = spelled_piece _ _ (caret ∷ []) after refl ([], refl, refl)
run_at_spelled (b ∷ digits) rest after h e =
    spelled_where _ (b == dash) _ _
    (λ is. without_at_spelled digits (b ∷ digits) rest after (h ∙ ap (λ c. c ∷ (digits ++ rest)) (eqb-true b dash is)) e.1)
    (λ is. parent_by_spelled b digits rest after (number_of (b ∷ digits)) h e.0 refl)

-- braces
braced_own : (m : ℕ) (x : Braced) (text : List ℕ) → OpensWith x text → m ∷ text ≡ (m ∷ brace ∷ (x.raw ++ (125 ∷ []))) ++ x.rest
braced_own m x text h = ap (λ xs. m ∷ xs) (h ∙ ap (λ xs. brace ∷ xs) (sym (append_assoc x.raw (125 ∷ []) x.rest)))

spelled_escapes : (text : List ℕ) (escapes : Bool) (p : Part) → IsSpelled text p → IsSpelled text (behind_escapes escapes p)
spelled_escapes text true p h = record { spells = ([], text, refl, refl, h.spells); over = h.over }
spelled_escapes text false p h = h

spelled_pair : (m : ℕ) (b : Bool) (x : Braced) (text : List ℕ) (reading : Braced → Part) → (b ≡ true → Holds x text) →
    ((y : Braced) → Holds y text → IsSpelled (m ∷ text) (reading y)) → IsSpelled (m ∷ text) (braced_by (if b then Some x else None) text reading)
spelled_pair m true x text reading h k = spelled_escapes _ x.escapes (reading x) (k x (h refl))
spelled_pair m false x text reading h k = spelled_refusal _ _ _

spelled_braces : (m : ℕ) (text : List ℕ) (reading : Braced → Part) → starts_with brace text ≡ true →
    ((x : Braced) → Holds x text → IsSpelled (m ∷ text) (reading x)) → IsSpelled (m ∷ text) (in_braces text reading)
unfolding in_braces
spelled_braces m text reading h k =
    spelled_pair m (nat_lt (close_of text) (length text)) (braced_to text (close_of text)) text reading (λ e. holds_pair text h (ltb-true _ _ e)) k

-- `^{..}`
peeled_spelled : (o : Option Target) (x : Braced) (after : List ℕ) → Holds x after → target_named x.meant ≡ o → IsSpelled (caret ∷ after) (peeled_to o x after)
peeled_spelled None x after h e = spelled_refusal _ _ _
peeled_spelled (Some target) x after h e =
    let word : target_named (meant_in x.raw) ≡ Some target = ap target_named (sym h.means) ∙ e in
    spelled_piece _ _ (caret ∷ brace ∷ (x.raw ++ (125 ∷ []))) x.rest (braced_own caret x after h.opens) (inl (x.raw, refl, word))

-- a mark takes one byte or two
abbrev MarkTakes : Option (ℕ × Bool) → Type 0
MarkTakes None = Unit {0}
MarkTakes (Some mark) = (mark ≡ (0, false)) ⊎ ((mark ≡ (1, false)) ⊎ (mark ≡ (2, true)))

takes_if : (b : Bool) (x y : Option (ℕ × Bool)) → MarkTakes x → MarkTakes y → MarkTakes (if b then x else y)
takes_if true x y h k = h
takes_if false x y h k = k

banged_takes : (after : List ℕ) → MarkTakes (banged_mark after)
banged_takes [] = tt
banged_takes (b ∷ rest) = takes_if (b == dash) _ _ (inr (inr refl)) (takes_if (b == bang) _ _ (inr (inl refl)) tt)

mark_takes : (text : List ℕ) → MarkTakes (regex_mark text)
unfolding regex_mark
mark_takes [] = inl refl
mark_takes (b ∷ rest) = takes_if (b == bang) _ _ (banged_takes rest) (inl refl)

behind_one : (n : ℕ) (xs : List ℕ) → drop n (drop 1 xs) ≡ drop (suc n) xs
behind_one zero [] = refl
behind_one (suc n) [] = refl
behind_one n (x ∷ xs) = refl

marked_in : (raw : List ℕ) (mark : ℕ × Bool) → MarkTakes (Some mark) → IsRegexIn (drop mark.0 (drop 1 raw)) mark.1 raw
marked_in raw mark (inl h) = rw h (inl refl)
marked_in raw mark (inr (inl h)) = rw h (inr (behind_one 1 raw))
marked_in raw mark (inr (inr h)) = rw h (behind_one 2 raw)

-- the regex behind its mark
abbrev MarksIn : (more : List ℕ) → Option (ℕ × Bool) → Type 0
MarksIn more None = Unit {0}
MarksIn more (Some mark) = IsRegex (drop mark.0 more) mark.1 more

marks_where : (more : List ℕ) (b : Bool) (x y : Option (ℕ × Bool)) → (b ≡ true → MarksIn more x) → (b ≡ false → MarksIn more y) → MarksIn more (if b then x else y)
marks_where more true x y h k = h refl
marks_where more false x y h k = k refl

banged_marks : (b : ℕ) (rest : List ℕ) → b ≡ bang → MarksIn (b ∷ rest) (banged_mark rest)
banged_marks b [] e = tt
banged_marks b (c ∷ rest) e =
    marks_where (b ∷ c ∷ rest) (c == dash) _ _ (λ d. let same : c ≡ dash = eqb-true c dash d in rw (e, same) refl)
    (λ d. marks_where (b ∷ c ∷ rest) (c == bang) _ _ (λ f. inr (ap (λ a. a ∷ c ∷ rest) e)) (λ f. tt))

regex_marks : (more : List ℕ) → MarksIn more (regex_mark more)
unfolding regex_mark
regex_marks [] = inl refl
regex_marks (b ∷ rest) = marks_where (b ∷ rest) (b == bang) _ _ (λ e. banged_marks b rest (eqb-true b bang e)) (λ e. inl refl)

marked_spelled : (x : Braced) (more after : List ℕ) (o : Option (ℕ × Bool)) → Holds x after → MarkTakes o → meant_in x.raw ≡ slash ∷ more → MarksIn more o →
    IsSpelled (caret ∷ after) (marked_regex (drop 1 x.raw) more x.rest o)
marked_spelled x more after None h k e m = spelled_refusal _ _ _
marked_spelled x more after (Some mark) h k e m =
    spelled_piece _ _ (caret ∷ brace ∷ (x.raw ++ (125 ∷ []))) x.rest (braced_own caret x after h.opens) (inr (x.raw, refl, marked_in x.raw mark k, (more, e, m)))

inside_target_spelled : (meant : List ℕ) (x : Braced) (after : List ℕ) → Holds x after → x.meant ≡ meant → IsSpelled (caret ∷ after) (inside_target meant x after)
inside_target_spelled [] x after h e = peeled_spelled (target_named []) x after h (ap target_named e)
inside_target_spelled (b ∷ more) x after h e =
    spelled_where _ (b == slash) _ _
    (λ d. marked_spelled x more after (regex_mark more) h (mark_takes more) (sym h.means ∙ (e ∙ ap (λ a. a ∷ more) (eqb-true b slash d))) (regex_marks more))
    (λ d. peeled_spelled (target_named (b ∷ more)) x after h (ap target_named e))

target_spelled : (after : List ℕ) → starts_with brace after ≡ true → IsSpelled (caret ∷ after) (target_braces after)
unfolding target_braces
target_spelled after e = spelled_braces caret after _ e (λ x h. inside_target_spelled x.meant x after h refl)

-- `@{..}`
branch_spelled : (own : List ℕ) (n : ℕ) (x : Braced) (after : List ℕ) → Holds x after → signed_of (meant_in x.raw) ≡ Some (minus n) → IsSpelled (at_sign ∷ after) (branch_at own n x)
branch_spelled [] n x after h e = spelled_piece _ _ (at_sign ∷ brace ∷ (x.raw ++ (125 ∷ []))) x.rest (braced_own at_sign x after h.opens) (refl, e)
branch_spelled (b ∷ name) n x after h e = spelled_refusal _ _ _

number_spelled : (own : List ℕ) (number : Signed) (x : Braced) (after : List ℕ) → Holds x after → signed_of (meant_in x.raw) ≡ Some number →
    IsSpelled (at_sign ∷ after) (number_at own number x)
number_spelled own (minus n) x after h e = spelled_if _ (n == 0) _ _ (spelled_refusal _ _ _) (branch_spelled own n x after h e)
number_spelled own (plain n) x after h e = spelled_piece _ _ (at_sign ∷ brace ∷ (x.raw ++ (125 ∷ []))) x.rest (braced_own at_sign x after h.opens) (refl, (n, e, refl))

word_spelled : (own : List ℕ) (o : Option SiblingBranch) (x : Braced) (after : List ℕ) → Holds x after → sibling_of (meant_in x.raw) ≡ o → IsSpelled (at_sign ∷ after) (word_at own o x)
word_spelled own None x after h e =
    spelled_piece _ _ (at_sign ∷ brace ∷ (x.raw ++ (125 ∷ []))) x.rest (braced_own at_sign x after h.opens) (refl, λ now. ap (λ text. time_of (date_of text now)) h.means)
word_spelled own (Some which) x after h e = spelled_piece _ _ (at_sign ∷ brace ∷ (x.raw ++ (125 ∷ []))) x.rest (braced_own at_sign x after h.opens) (refl, e)

inside_spelled : (own : List ℕ) (o : Option Signed) (x : Braced) (after : List ℕ) → Holds x after → signed_of (meant_in x.raw) ≡ o → IsSpelled (at_sign ∷ after) (inside_at own o x)
inside_spelled own None x after h e = word_spelled own (sibling_of x.meant) x after h (ap sibling_of (sym h.means))
inside_spelled own (Some number) x after h e = number_spelled own number x after h e

at_braces_spelled : (own after : List ℕ) → starts_with brace after ≡ true → IsSpelled (at_sign ∷ after) (at_braces own after)
unfolding at_braces
at_braces_spelled own after e = spelled_braces at_sign after _ e (λ x h. inside_spelled own (signed_of x.meant) x after h (ap signed_of (sym h.means)))

-- a reader behind a mark
marked : (more : List ℕ) (b m : ℕ) (p : Part) → (b == m) ≡ true → IsSpelled (m ∷ more) p → IsSpelled (b ∷ more) p
marked more b m p e h = subst (λ c. IsSpelled (c ∷ more) p) (sym (eqb-true b m e)) h

second_marked : (a : ℕ) (more : List ℕ) (b m : ℕ) (p : Part) → (b == m) ≡ true → IsSpelled (a ∷ m ∷ more) p → IsSpelled (a ∷ b ∷ more) p
second_marked a more b m p e h = subst (λ c. IsSpelled (a ∷ c ∷ more) p) (sym (eqb-true b m e)) h

-- steps
parent_at_spelled : (after : List ℕ) → IsSpelled (caret ∷ after) (parent_at after)
unfolding parent_at
parent_at_spelled [] = spelled_piece _ _ (caret ∷ []) [] refl ([], refl, refl)
parent_at_spelled (b ∷ rest) =
    spelled_if _ (b == plus) _ _ (spelled_refusal _ _ _)
    (spelled_where _ (b == brace) _ _ (λ e. target_spelled (b ∷ rest) e)
    (λ d. spelled_where _ (b == bang) _ _ (λ e. second_marked caret rest b bang _ e (spelled_closing _ _ (caret ∷ bang ∷ []) rest refl (inl (refl, refl))))
    (λ d. spelled_where _ (b == at_sign) _ _ (λ e. second_marked caret rest b at_sign _ e (spelled_closing _ _ (caret ∷ at_sign ∷ []) rest refl (inr (refl, refl))))
    (λ d. run_at_spelled _ _ (b ∷ rest) (sym (take-append-drop _ (b ∷ rest))) (run_unsigned is_digit_or_minus refl (b ∷ rest))))))

step_at_spelled : (text : List ℕ) → IsSpelled text (step_at text)
unfolding step_at
step_at_spelled [] = spelled_nothing []
step_at_spelled (b ∷ after) =
    spelled_where _ (b == tilde) _ _ (λ e. marked after b tilde _ e (ancestor_at_spelled after))
    (λ d. spelled_where _ (b == caret) _ _ (λ e. marked after b caret _ e (parent_at_spelled after))
    (λ d. spelled_where _ (b == colon) _ _ (λ e. marked after b colon _ e (spelled_piece _ _ (colon ∷ after) [] (sym (append-nil (colon ∷ after))) refl))
    (λ d. spelled_nothing (b ∷ after))))

steps_at_spelled : (n : ℕ) (text : List ℕ) → IsSpelled text (steps_at n text)
unfolding steps_at
steps_at_spelled zero text = spelled_nothing text
steps_at_spelled (suc n) text = spelled_followed text (step_at text) (steps_at n) (step_at_spelled text) (steps_at_spelled n)

-- names
at_part_spelled : (own text : List ℕ) → IsSpelled text (at_part own text)
unfolding at_part
at_part_spelled own [] = spelled_nothing []
at_part_spelled own (b ∷ after) =
    spelled_where _ (b == at_sign) _ _
    (λ e. marked after b at_sign _ e (spelled_where _ (starts_with brace after) _ _ (at_braces_spelled own after) (λ d. spelled_refusal _ _ _)))
    (λ e. spelled_nothing (b ∷ after))

without_name_spelled : (text : List ℕ) → IsSpelled text (without_name text)
unfolding without_name
without_name_spelled [] = spelled_nothing []
without_name_spelled (b ∷ after) =
    spelled_where _ (b == at_sign) _ _
    (λ e. marked after b at_sign _ e (spelled_where _ (starts_with brace after) _ _ (at_braces_spelled [] after) (λ d. spelled_piece _ _ (at_sign ∷ []) after refl (inr refl))))
    (λ e. spelled_nothing (b ∷ after))

anchor_by_spelled : (text : List ℕ) (n : ℕ) → IsSpelled text (anchor_by text n)
anchor_by_spelled text zero = without_name_spelled text
anchor_by_spelled text (suc n) =
    spelled_followed text _ (at_part (take (suc n) text))
    (spelled_piece _ _ (take (suc n) text) (drop (suc n) text) (sym (take-append-drop (suc n) text)) refl) (at_part_spelled (take (suc n) text))

anchor_at_spelled : (text : List ℕ) → IsSpelled text (anchor_at text)
unfolding anchor_at
anchor_at_spelled text = anchor_by_spelled text (cut_of text)

-- colon forms, which take the whole text
spelled_all : (q : Piece) (text : List ℕ) → IsWritten q text → IsSpelled text (piece q [])
spelled_all q text h = spelled_piece q text text [] (sym (append-nil text)) h

negated_spelled : (raw whole : List ℕ) → IsSpelled (codes ":/!-" ++ raw) (negated_regex raw whole)
negated_spelled [] whole = spelled_refusal _ _ _
negated_spelled (b ∷ rest) whole = spelled_all _ _ (inl (codes "!-" ++ (b ∷ rest), refl, refl, refl))

banged_spelled : (after raw whole : List ℕ) → IsSpelled (codes ":/!" ++ after) (banged after raw whole)
unfolding banged
banged_spelled [] raw whole = spelled_refusal _ _ _
banged_spelled (b ∷ rest) raw whole =
    spelled_where _ (b == dash) _ _ (λ e. subst (λ c. IsSpelled (codes ":/!" ++ (c ∷ rest)) (negated_regex rest whole)) (sym (eqb-true b dash e)) (negated_spelled rest whole))
    (λ d. spelled_if _ (b == bang) _ _ (spelled_all _ _ (inl (codes "!" ++ (b ∷ rest), refl, inr refl, refl))) (spelled_refusal _ _ _))

regex_spelled : (raw whole : List ℕ) → IsSpelled (codes ":/" ++ raw) (regex_at raw whole)
unfolding regex_at
regex_spelled [] whole = spelled_refusal _ _ _
regex_spelled (b ∷ rest) whole =
    spelled_where _ (b == bang) _ _
    (λ e. subst (λ c. IsSpelled (codes ":/" ++ (c ∷ rest)) (banged rest (b ∷ rest) whole)) (sym (eqb-true b bang e)) (banged_spelled rest (b ∷ rest) whole))
    (λ d. spelled_all _ _ (inl (b ∷ rest, refl, inl refl, refl)))

staged_spelled : (b : ℕ) (p : List ℕ) → IsSpelled (colon ∷ b ∷ colon ∷ p) (staged b p (b ∷ colon ∷ p))
staged_spelled b p =
    spelled_where _ (is_stage b) _ _
    (λ e. let least : 48 ≤ b = leb-true 48 b (first_true (nat_le 48 b) (nat_le b 51) e) in
    let same : b ≡ (b - 48) + 48 = omega (arith, least) in
    spelled_all _ _ (inr (ap (λ c. colon ∷ c ∷ colon ∷ p) same)))
    (λ e. spelled_all _ _ (inl (refl, refl)))

index_spelled : (b : ℕ) (rest : List ℕ) → IsSpelled (colon ∷ b ∷ rest) (index_at b rest (b ∷ rest))
index_spelled b [] = spelled_all _ _ (inl (refl, refl))
index_spelled b (c ∷ p) =
    spelled_where _ (c == colon) _ _
    (λ e. subst (λ d. IsSpelled (colon ∷ b ∷ d ∷ p) (staged b p (b ∷ d ∷ p))) (sym (eqb-true c colon e)) (staged_spelled b p))
    (λ e. spelled_all _ _ (inl (refl, refl)))

colon_spelled : (after whole : List ℕ) → IsSpelled (colon ∷ after) (colon_form after whole)
unfolding colon_form
colon_spelled [] whole = spelled_refusal _ _ _
colon_spelled (b ∷ rest) whole =
    spelled_where _ (b == slash) _ _ (λ e. second_marked colon rest b slash _ e (regex_spelled rest whole)) (λ e. index_spelled b rest)

named_spelled : (text : List ℕ) → IsSpelled text (named_revision text)
named_spelled text = spelled_followed text (anchor_at text) navigation (anchor_at_spelled text) (λ rest. steps_at_spelled (length rest) rest)

revision_spelled : (text : List ℕ) → IsSpelled text (revision_at text)
unfolding revision_at
revision_spelled [] = named_spelled []
revision_spelled (b ∷ after) =
    spelled_where _ (b == colon) _ _ (λ e. marked after b colon _ e (colon_spelled after (b ∷ after)))
    (λ d. spelled_if _ (b == tilde) _ _ (spelled_refusal _ _ _) (named_spelled (b ∷ after)))

-- whole texts
end_spelled : (rest : List ℕ) → Spells (end_at rest) rest []
end_spelled [] = ([], [], refl, refl, refl)
end_spelled (b ∷ rest) = (b ∷ rest, [], sym (append-nil (b ∷ rest)), tt, refl)

closed_end_spelled : (rest : List ℕ) → Spells (closed_end rest) rest []
closed_end_spelled [] = ([], [], refl, refl, refl)
closed_end_spelled (b ∷ rest) = (b ∷ rest, [], sym (append-nil (b ∷ rest)), tt, refl)

head_spelled : (b : Bool) (text : List ℕ) (ps : List Piece) → Spells ps text [] → Spells ((if b then head ∷ [] else []) ++ ps) text []
head_spelled true text ps h = ([], text, refl, inl refl, h)
head_spelled false text ps h = h

second_by_spelled : (p : Part) (v : Way) (text : List ℕ) (ps : List Piece) → p.way ≡ v → IsSpelled text p → Spells ps p.rest [] → Spells (p.pieces ++ unless_broken v ps) text []
second_by_spelled p onward text ps e h k = spells_append p.pieces ps text p.rest [] h.spells k
second_by_spelled p closed text ps e h k = spells_append p.pieces ps text p.rest [] h.spells k
second_by_spelled p broken text ps e h k = spells_append p.pieces [] text p.rest [] h.spells (h.over e)

second_spelled : (text : List ℕ) → Spells (second_side text) text []
unfolding second_side
second_spelled text =
    let p : Part = revision_at text in
    second_by_spelled p p.way text _ refl (revision_spelled text) (head_spelled (length p.rest == length text) p.rest (end_at p.rest) (end_spelled p.rest))

-- a range mark at the front of a text
abbrev MarkSpelled : List ℕ → Option (Kind × List ℕ) → Type 0
MarkSpelled text None = Unit {0}
MarkSpelled text (Some mark) = (own : List ℕ) × (text ≡ own ++ mark.1) × IsWritten (range mark.0) own

mark_where : (text : List ℕ) (b : Bool) (x y : Option (Kind × List ℕ)) → (b ≡ true → MarkSpelled text x) → MarkSpelled text y → MarkSpelled text (if b then x else y)
mark_where text true x y h k = h refl
mark_where text false x y h k = k

begins_with : (mark text : List ℕ) → begins mark text ≡ true → text ≡ mark ++ drop (length mark) text
begins_with mark text e = sym (take-append-drop (length mark) text) ∙ ap (λ xs. xs ++ drop (length mark) text) (same_text _ mark (sym e))

mark_spelled : (text : List ℕ) → MarkSpelled text (range_mark text)
unfolding range_mark
mark_spelled text =
    mark_where text (begins (codes "...") text) _ _ (λ e. (codes "...", begins_with (codes "...") text e, inr (refl, refl)))
    (mark_where text (begins (codes "..") text) _ _ (λ e. (codes "..", begins_with (codes "..") text e, inl (refl, refl))) (tt {0}))

ranged_spelled : (x : Bool) (text rest : List ℕ) (o : Option (Kind × List ℕ)) → MarkSpelled rest o → Spells (ranged x text rest o) rest []
ranged_spelled x text rest None h = end_spelled rest
ranged_spelled true text rest (Some mark) h = (rest, [], sym (append-nil rest), tt, refl)
ranged_spelled false text rest (Some mark) h =
    head_spelled (length rest == length text) rest (range mark.0 ∷ second_side mark.1) (h.0, mark.1, h.1, h.2, second_spelled mark.1)

first_spelled : (p : Part) (v : Way) (x : Bool) (text : List ℕ) → p.way ≡ v → IsSpelled text p → Spells (p.pieces ++ after_first v x text p.rest) text []
first_spelled p onward x text e h = spells_append p.pieces _ text p.rest [] h.spells (ranged_spelled x text p.rest (range_mark p.rest) (mark_spelled p.rest))
first_spelled p closed x text e h = spells_append p.pieces _ text p.rest [] h.spells (closed_end_spelled p.rest)
first_spelled p broken x text e h = spells_append p.pieces [] text p.rest [] h.spells (h.over e)

sides_spelled : (x : Bool) (text : List ℕ) → Spells (sides_at x text) text []
unfolding sides_at
sides_spelled x text = first_spelled (revision_at text) (revision_at text).way x text refl (revision_spelled text)

excluded_spelled : (same : Bool) (b : ℕ) (rest : List ℕ) → (b == caret) ≡ same →
    (let x : Bool × List ℕ = if same then (true, rest) else (false, b ∷ rest) in Spells (excluded_at x.0 ++ sides_at x.0 x.1) (b ∷ rest) [])
excluded_spelled true b rest e = (caret ∷ [], rest, ap (λ c. c ∷ rest) (eqb-true b caret e), refl, sides_spelled true rest)
excluded_spelled false b rest e = sides_spelled false (b ∷ rest)

pub pieces_spelled : PiecesSpell
unfolding pieces_of
pieces_spelled [] = sides_spelled false []
pieces_spelled (b ∷ rest) = excluded_spelled (b == caret) b rest refl
