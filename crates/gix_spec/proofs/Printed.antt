-- A printed spec is read as what it was printed from.
use Rattle.std.proofs.Common.{◌≡◌, ℕ, ◌+◌, ◌<◌, ◌≤◌, ◌==◌, ◌||◌, List, [], ◌∷◌, ◌++◌, Bool, true, false, Some, None, length, slice_index, refl, sym, ◌∙◌, ap, arith, append_assoc, append-nil, length-append}
use Rattle.std.proofs.lemmas.Bool.{eqb-true}
use Rattle.std.proofs.lemmas.List.{take_at, drop_at, get_or_append_left, get_or-append_right}
use Rattle.gix_base.specs.declared.error.Exn.{Exn}
use Rattle.gix_base.specs.declared.date.Time.{Time}
use Rattle.gix_base.specs.declared.hash.ObjectId.{ObjectId}
use Rattle.gix_base.specs.Hash.{id_text, IsId}
use Rattle.gix_spec.specs.declared.spec.Kind.{Kind}
use Rattle.gix_spec.specs.declared.spec.Kind.TheVariants.{RangeBetween, ReachableToMergeBase, IncludeReachableFromParents, ExcludeReachableFromParents}
use Rattle.gix_spec.specs.declared.spec.Spec.TheVariants.{Include, Exclude, Range, Merge, IncludeOnlyParents, ExcludeParents}
use Rattle.gix_spec.specs.Call.{Call}
use Rattle.gix_spec.specs.Answer.{accepted, refused, no_memory}
use Rattle.gix_spec.specs.Tree.{Tree, Leaf, leaf, ask, takes}
use Rattle.gix_spec.specs.Run.{IsRun, at_leaf, goes_on, turns, runs_out, has_room, has_none, Outcome, ended}
use Rattle.gix_spec.specs.Context.{start}
use Rattle.gix_spec.specs.Pieces.{Piece, exclude, name, closer, range, finish, finished}
use Rattle.gix_spec.specs.Trees.{tree_of, takes_memory}
use Rattle.gix_spec.specs.Part.{Part, nothing, closing}
use Rattle.gix_spec.specs.Cut.{is_mark, two_dots_at, after_dot, ends_name, cut_of}
use Rattle.gix_spec.specs.Names.{attempt_of, at_part, anchor_at}
use Rattle.gix_spec.specs.Steps.{step_at, steps_at, parent_at, navigation}
use Rattle.gix_spec.specs.Reading.{named_revision, revision_at, range_mark, implied_head, second_side, sides_at, exclude_mark, pieces_of}
use Rattle.gix_spec.specs.Heard.{Accepts, ReadsBack, PrintedReadsBack}
use Rattle.gix_spec.proofs.Memory.{IsFrugal, tree_frugal}
use Rattle.gix_spec.proofs.Places.{least_from-is}
use Rattle.gix_spec.proofs.Describing.{prefix_with-some}
use Rattle.gix_spec.proofs.Navigation.{navigation-none}
use Rattle.gix_spec.proofs.Digits.{AreForty, id_text-forty, IsPlain, plain, first_of}

-- the calls where all are accepted, and the leaf where they end
abbrev calls_of : Tree → List Call
calls_of (leaf l) = []
calls_of (ask c onward otherwise) = c ∷ calls_of onward
calls_of (takes t) = calls_of t

abbrev leaf_of : Tree → Leaf
leaf_of (leaf l) = l
leaf_of (ask c onward otherwise) = leaf_of onward
leaf_of (takes t) = leaf_of t

never_refused : (e : Exn) → refused e ≡ accepted → ⊥
never_refused e h = cc

never_out : no_memory ≡ accepted → ⊥
never_out h = cc

heard : {s u : List Call} {t : Tree} {o : Outcome} → IsRun Accepts s t u o → IsFrugal t → (u ≡ s ++ calls_of t) × (o ≡ ended (leaf_of t))
heard (at_leaf {s}) f = (sym (append-nil s), refl)
heard (goes_on {s} {c} {onward} h r) f = let k = heard r f.0 in (rw (k.0, h.1, append_assoc), k.1)
heard (turns {e} h r) f = absurd (never_refused e h.0)
heard (runs_out h) f = absurd (never_out h.0)
heard (has_room r) f = absurd f
heard has_none f = absurd f

apart_at : (n : ℕ) (b : Bool) → (n == 40 + n) ≡ b → b ≡ false
apart_at n true e = let same : n ≡ 40 + n = eqb-true n (40 + n) e in absurd (omega arith)
apart_at n false e = refl

apart_by_forty : (n : ℕ) → (n == 40 + n) ≡ false
apart_by_forty n = apart_at n (n == 40 + n) refl

-- what may stand behind forty digits
record Follows (rest : List ℕ) : Type 0 where
  ends : 0 < length rest → (is_mark (slice_index rest 0) || two_dots_at rest 0) ≡ true
  no_at : (own : List ℕ) → at_part own rest ≡ nothing rest

or_left : (a b : Bool) → a ≡ true → (a || b) ≡ true
or_left a b h = rw h refl

-- the cut is behind the forty digits
cut_front : (d rest : List ℕ) → AreForty d → Follows rest → cut_of (d ++ rest) ≡ 40
unfolding cut_of ends_name
cut_front d rest h f =
    let size : length (d ++ rest) ≡ 40 + length rest = length-append d rest ∙ ap (λ n. n + length rest) h.forty in
    least_from-is (λ k. ends_name (d ++ rest) (after_dot (d ++ rest) k) k) (length (d ++ rest)) 0 40 (record {
      low = omega arith;
      high = omega arith;
      none = λ j low before.
          let within : j < length d = omega (arith, h.forty) in
          let byte : slice_index (d ++ rest) j ≡ slice_index d j = get_or_append_left d rest 0 j within in
          let p : IsPlain (slice_index d j) = plain (slice_index d j) (h.digits j 0 within) in
          rw (byte, p.no_tilde, p.no_caret, p.no_colon, p.no_dot, p.no_at) refl;
      found = λ within.
          let room : 40 ≤ 40 = omega arith in
          let more : 40 ≤ 41 = omega arith in
          let here : slice_index (d ++ rest) 40 ≡ slice_index rest 0 = get_or-append_right d rest 40 40 0 h.forty room in
          let next : slice_index (d ++ rest) 41 ≡ slice_index rest 1 = get_or-append_right d rest 40 41 0 h.forty more in
          rw (here, next) (or_left _ _ (f.ends (omega arith)));
    })

-- the name that forty digits are
abbrev full_name : (d whole : List ℕ) → Piece
full_name d whole = name d whole (Some (d, None))

attempt_full : (d : List ℕ) → AreForty d → attempt_of d ≡ Some (d, None)
unfolding attempt_of
attempt_full d h =
    let few : 4 ≤ length d = omega (arith, h.forty) in
    let many : length d ≤ 40 = omega (arith, h.forty) in
    rw (prefix_with-some d None (few, many, h.digits), h.lower) refl

abbrev front : (d rest : List ℕ) → Part → Part
front d rest q = record { pieces = full_name d (d ++ rest) ∷ q.pieces; rest = q.rest; way = q.way }

anchor_front : (d rest : List ℕ) → AreForty d → Follows rest → anchor_at (d ++ rest) ≡ front d rest (nothing rest)
unfolding anchor_at
anchor_front d rest h f = rw (cut_front d rest h f, take_at d rest 40 h.forty, drop_at d rest 40 h.forty, attempt_full d h, f.no_at d) refl

by_name : (b : ℕ) (after : List ℕ) → IsPlain b → revision_at (b ∷ after) ≡ named_revision (b ∷ after)
unfolding revision_at
by_name b after p = rw (p.no_colon, p.no_tilde) refl

by_digits : (d rest : List ℕ) → AreForty d → revision_at (d ++ rest) ≡ named_revision (d ++ rest)
by_digits d rest h = let f = first_of d h.forty h.digits in rw f.split (by_name f.first (f.others ++ rest) f.is_plain)

revision_front : (d rest : List ℕ) (q : Part) → AreForty d → Follows rest → navigation rest ≡ q → revision_at (d ++ rest) ≡ front d rest q
revision_front d rest q h f e = by_digits d rest h ∙ rw (anchor_front d rest h f, e) refl

not_marked : (d rest : List ℕ) → AreForty d → exclude_mark (d ++ rest) ≡ (false, d ++ rest)
not_marked d rest h = let f = first_of d h.forty h.digits in rw (f.split, f.is_plain.no_caret) refl

two_dots : (d : List ℕ) → AreForty d → range_mark (46 ∷ 46 ∷ d) ≡ Some (RangeBetween, d)
unfolding range_mark
two_dots d h = let f = first_of d h.forty h.digits in rw (f.split, f.is_plain.no_dot) refl

three_dots : (d : List ℕ) → range_mark (46 ∷ 46 ∷ 46 ∷ d) ≡ Some (ReachableToMergeBase, d)
unfolding range_mark
three_dots d = refl

-- the end of a text, dots and a closer
follows_end : Follows []
unfolding at_part
follows_end = record { ends = λ h. absurd (omega arith); no_at = λ own. refl }

follows_dots : (more : List ℕ) → Follows (46 ∷ 46 ∷ more)
unfolding at_part
follows_dots more = record { ends = λ h. refl; no_at = λ own. refl }

follows_caret : (more : List ℕ) → Follows (94 ∷ more)
unfolding at_part
follows_caret more = record { ends = λ h. refl; no_at = λ own. refl }

no_steps : navigation [] ≡ nothing []
unfolding step_at
no_steps = navigation-none [] refl

dots_stop : (more : List ℕ) → navigation (46 ∷ more) ≡ nothing (46 ∷ more)
unfolding step_at
dots_stop more = navigation-none (46 ∷ more) refl

parents_close : navigation (94 ∷ 64 ∷ []) ≡ closing (closer IncludeReachableFromParents []) []
unfolding steps_at step_at parent_at
parents_close = refl

bang_closes : navigation (94 ∷ 33 ∷ []) ≡ closing (closer ExcludeReachableFromParents []) []
unfolding steps_at step_at parent_at
bang_closes = refl

revision_whole : (d : List ℕ) → AreForty d → revision_at d ≡ record (nothing []) { pieces = full_name d d ∷ [] }
revision_whole d h = rw append-nil at (revision_front d [] (nothing []) h follows_end no_steps)

-- the pieces of the six forms
one_id : (d : List ℕ) → AreForty d → pieces_of d ≡ full_name d d ∷ finish ∷ []
unfolding pieces_of sides_at range_mark
one_id d h =
    let mark : exclude_mark d ≡ (false, d) = rw append-nil at (not_marked d [] h) in
    rw (mark, revision_whole d h) refl

excluded_id : (d : List ℕ) → AreForty d → pieces_of (94 ∷ d) ≡ exclude ∷ full_name d d ∷ finish ∷ []
unfolding pieces_of sides_at range_mark
excluded_id d h = rw (revision_whole d h) refl

-- two ids with a range mark between them
abbrev two_ids : Kind → (d whole e : List ℕ) → List Piece
two_ids k d whole e = full_name d whole ∷ range k ∷ full_name e e ∷ finish ∷ []

second_id : (e : List ℕ) → AreForty e → second_side e ≡ full_name e e ∷ finish ∷ []
unfolding second_side
second_id e h = rw (revision_whole e h, h.forty) refl

not_implied : (d rest : List ℕ) → AreForty d → implied_head (d ++ rest) rest ≡ []
not_implied d rest h = rw (length-append d rest, h.forty, apart_by_forty (length rest)) refl

ranged_ids : (d more e : List ℕ) (k : Kind) → AreForty d → AreForty e → range_mark (46 ∷ 46 ∷ more) ≡ Some (k, e) →
    pieces_of (d ++ (46 ∷ 46 ∷ more)) ≡ two_ids k d (d ++ (46 ∷ 46 ∷ more)) e
unfolding pieces_of sides_at
ranged_ids d more e k h i mark =
    let rest : List ℕ = 46 ∷ 46 ∷ more in
    rw (not_marked d rest h, revision_front d rest (nothing rest) h (follows_dots more) (dots_stop (46 ∷ more)), mark, not_implied d rest h, second_id e i) refl

closed_id : (d more : List ℕ) (k : Kind) → AreForty d → navigation (94 ∷ more) ≡ closing (closer k []) [] →
    pieces_of (d ++ (94 ∷ more)) ≡ full_name d (d ++ (94 ∷ more)) ∷ closer k [] ∷ finished ∷ []
unfolding pieces_of sides_at
closed_id d more k h closes =
    rw (not_marked d (94 ∷ more) h, revision_front d (94 ∷ more) (closing (closer k []) []) h (follows_caret more) closes) refl

-- the calls of a text whose pieces are known
hears : (text : List ℕ) (ps : List Piece) (now : Time) (s : List Call) (o : Outcome) → pieces_of text ≡ ps → takes_memory ps ≡ false →
    IsRun Accepts [] (tree_of (pieces_of text) (start now)) s o →
    (s ≡ calls_of (tree_of ps (start now))) × (o ≡ ended (leaf_of (tree_of ps (start now))))
hears text ps now s o e frugal r = heard (rw e at r) (tree_frugal ps (start now) frugal)

reads_include : (a : ObjectId) → IsId a → ReadsBack (Include a)
reads_include a h now s o r = hears (id_text a) _ now s o (one_id (id_text a) (id_text-forty a h)) refl r

reads_exclude : (a : ObjectId) → IsId a → ReadsBack (Exclude a)
reads_exclude a h now s o r = hears (94 ∷ id_text a) _ now s o (excluded_id (id_text a) (id_text-forty a h)) refl r

reads_range : (a b : ObjectId) → IsId a → IsId b → ReadsBack (Range a b)
reads_range a b h i now s o r =
    let e = ranged_ids (id_text a) (id_text b) (id_text b) RangeBetween (id_text-forty a h) (id_text-forty b i) (two_dots (id_text b) (id_text-forty b i)) in
    hears _ _ now s o e refl (rw append_assoc at r)

reads_merge : (a b : ObjectId) → IsId a → IsId b → ReadsBack (Merge a b)
reads_merge a b h i now s o r =
    let e = ranged_ids (id_text a) (46 ∷ id_text b) (id_text b) ReachableToMergeBase (id_text-forty a h) (id_text-forty b i) (three_dots (id_text b)) in
    hears _ _ now s o e refl (rw append_assoc at r)

reads_parents : (a : ObjectId) → IsId a → ReadsBack (IncludeOnlyParents a)
reads_parents a h now s o r = hears _ _ now s o (closed_id (id_text a) (64 ∷ []) IncludeReachableFromParents (id_text-forty a h) parents_close) refl r

reads_bang : (a : ObjectId) → IsId a → ReadsBack (ExcludeParents a)
reads_bang a h now s o r = hears _ _ now s o (closed_id (id_text a) (33 ∷ []) ExcludeReachableFromParents (id_text-forty a h) bang_closes) refl r

pub printed_reads_back : PrintedReadsBack
printed_reads_back (Include a) h = reads_include a h
printed_reads_back (Exclude a) h = reads_exclude a h
printed_reads_back (Range a b) h = reads_range a b h.0 h.1
printed_reads_back (Merge a b) h = reads_merge a b h.0 h.1
printed_reads_back (IncludeOnlyParents a) h = reads_parents a h
printed_reads_back (ExcludeParents a) h = reads_bang a h
