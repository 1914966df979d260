-- A text has the same runs in both orders if none of its names can be digits.
use Rattle.std.proofs.Common.{◌≡◌, ℕ, ◌==◌, List, [], ◌∷◌, length, Option, Some, None, Bool, true, false, Err, refl, sym, ap, ◌∙◌}
use Rattle.std.specs.List.{AllByRecursion, list_all}
use Rattle.std.proofs.lemmas.Bool.{and_parts, eqb-true}
use Rattle.hex.specs.Hex.{is_hex_digit}
use Rattle.gix_revision.specs.Answer.{Answer, accepted, refused, no_memory}
use Rattle.gix_revision.specs.Call as calls
use Rattle.gix_revision.specs.Call.{Call, Target, object, valid_object, recursive_tag, find_ref, done}
use Rattle.gix_revision.specs.Context.{Context, HEAD, start, after_reference, next_revision}
use Rattle.gix_revision.specs.DescribeText.{prefix_with}
use Rattle.gix_revision.specs.History.{History}
use Rattle.gix_revision.specs.Pieces.{Piece, exclude, regex, index, head, name, branch, reflog, sibling, date, unescaped, step, peel, path, closer, without_parent, range, finish, finished, fault}
use Rattle.gix_revision.specs.Reading.{pieces_of}
use Rattle.gix_revision.specs.Run.{IsRun, at_leaf, goes_on, turns, runs_out, has_room, has_none, Outcome}
use Rattle.gix_revision.specs.Tree.{Tree, leaf, ask, takes}
use Rattle.gix_revision.specs.Trees.{tree_of, demand, repeat, of_reference, at_time, attempts}
use Rattle.gix_revision.specs.Types.ObjectId.{ObjectId}
use Rattle.gix_revision.specs.Types.ObjectKind.TheVariants as kinds
use Rattle.gix_revision.specs.Types.Time.{Time}
use Rattle.gix_revision.specs.Types.Exn.{Exn}
use Rattle.gix_revision.specs.Types.Fault.{Fault}
use Rattle.gix_revision.specs.Types.Fault.TheVariants.{ReflogWithoutName, SiblingWithoutName, AtRefused, DoneRefusedInNavigation}
use Rattle.gix_resolve.specs.Known.{Known}
use Rattle.gix_resolve.specs.Resolved.{Way, IsStepBy, asked_as, asks_source, digits_first}
use Rattle.gix_resolve.specs.RevLaws.{IsPlain, IsSameDemand, OrdersAgree}
use Rattle.gix_resolve.specs.RevParse.{by_attempt, digits_in, is_whole_id, names_first, or_else}
use Rattle.gix_resolve.specs.Steps.{at_found}
use Rattle.gix_resolve.specs.declared.refusal.Refusal.TheVariants.{NoName}
use Rattle.gix_resolve.specs.declared.state.State.{State}

-- a call that two ways take alike
abbrev IsSame : Way → Way → Call → Type 0
IsSame v w c = ((s : State) → v.after s c ≡ w.after s c) × (asked_as v.demand c ≡ asked_as w.demand c)

module _ (v w : Way) where
  -- each call of a tree is one
  abbrev AreSame : Tree → Type 0
  AreSame (leaf l) = Unit {0}
  AreSame (takes t) = AreSame t
  AreSame (ask c onward otherwise) = IsSame v w c × AreSame onward × ((e : Exn) → AreSame (otherwise e))

  same_step : (s : State) (c : Call) (a : Answer) (u : State) → IsSame v w c → IsStepBy v s c a u → IsStepBy w s c a u
  same_step s c accepted u same taken = sym (same.0 s) ∙ taken
  same_step s c (refused e) u same taken = (taken.0, (taken.1.0, sym (same.0 s) ∙ taken.1.1, taken.1.2))
  same_step s c no_memory u same taken = (taken.0, sym (ap asks_source same.1) ∙ taken.1)

  pub same_run : {s u : State} {t : Tree} {o : Outcome} → IsRun (IsStepBy v) s t u o → AreSame t → IsRun (IsStepBy w) s t u o
  same_run at_leaf all = at_leaf
  same_run {s} (goes_on {t} {c} taken rest) all = goes_on (same_step s c accepted t all.0 taken) (same_run rest all.1)
  same_run {s} (turns {t} {c} {e} taken rest) all = turns (same_step s c (refused e) t all.0 taken) (same_run rest (all.2 e))
  same_run {s} {u} (runs_out {c} taken) all = runs_out (same_step s c no_memory u all.0 taken)
  same_run (has_room rest) all = has_room (same_run rest all)
  same_run has_none all = has_none

flip : (v w : Way) (t : Tree) → AreSame v w t → AreSame w v t
flip v w (leaf l) all = tt
flip v w (takes t) all = flip v w t all
flip v w (ask c onward otherwise) all = ((λ s. sym (all.0.0 s), sym all.0.1), flip v w onward all.1, λ e. flip v w (otherwise e) (all.2 e))

module _ (known : Known) (h : History) where
  abbrev Same : Call → Type 0
  Same = IsSame (digits_first known h) (names_first known h)

  abbrev All : Tree → Type 0
  All = AreSame (digits_first known h) (names_first known h)

  -- a name that could be no digits
  no_attempt : (s : State) (o : Option (List ℕ × Option calls.Hint)) → o ≡ None → by_attempt known s o ≡ Err NoName
  no_attempt s o none = ap (by_attempt known s) none

  -- digits that are too few or too many for an id, or none, are no whole id
  no_whole : (text : List ℕ) → prefix_with text None ≡ None → (b : Bool) → is_whole_id text ≡ b → b ≡ false
  no_whole text none false is = refl
  no_whole text none true is =
      let parts = and_parts (length text == 40) (list_all is_hex_digit text) is in
      let long = eqb-true (length text) 40 parts.0 in
      let no : Some _ ≡ None = rw (parts.1, long) at none in
      cc

  found_same : (s : State) (o : Option ObjectId) → at_found s NoName o ≡ or_else (at_found s NoName o) (Err NoName)
  found_same s None = refl
  found_same s (Some id) = refl

  same_name : (text : List ℕ) → prefix_with text None ≡ None → prefix_with (digits_in text) None ≡ None → Same (find_ref text)
  same_name text whole part =
      let none : is_whole_id text ≡ false = no_whole text whole (is_whole_id text) refl in (
        λ s.
            let o = known.name_at text in
            rw none (found_same s o ∙ ap (or_else (at_found s NoName o)) (sym (no_attempt s (prefix_with (digits_in text) None) part))),
        refl,
      )

  same_head : Same (find_ref HEAD)
  unfolding digits_in
  same_head = same_name HEAD refl refl

  -- the call to be repeated, if there is one
  abbrev MayBeSame : Option Call → Type 0
  MayBeSame None = Unit {0}
  MayBeSame (Some c) = Same c

  repeat_same : (o : Option Call) (i : List ℕ) (t : Tree) → MayBeSame o → All t → All (repeat o i t)
  repeat_same None i t same all = tt
  repeat_same (Some c) i t same all = (same, all, λ e. tt)

  reference_same : (b : Bool) (f : Fault) (own : List ℕ) (t : Tree) → All t → All (of_reference b f own t)
  reference_same true f own t all = tt
  reference_same false f own t all = all

  time_same : (o : Option Time) (inner : List ℕ) (t : Tree) → All t → All (at_time o inner t)
  time_same None inner t all = tt
  time_same (Some x) inner t all = ((λ s. refl, refl), all, λ e. tt)

  attempts_same : (text whole : List ℕ) (o : Option (List ℕ × Option calls.Hint)) (m : Context) (k : Context → Tree) → o ≡ None → Same (find_ref text) → All (k (after_reference m text)) → All (attempts text whole o m k)
  attempts_same text whole None m k none same all = (same, all, λ e. tt)
  attempts_same text whole (Some p) m k none same all = cc none

  peel_same : (target : Target) → IsSameDemand target → Same (calls.peel target)
  peel_same (object kinds.Commit) same = (λ s. refl, refl)
  peel_same (object kinds.Tree) same = absurd same
  peel_same (object kinds.Blob) same = absurd same
  peel_same (object kinds.Tag) same = absurd same
  peel_same valid_object same = absurd same
  peel_same recursive_tag same = absurd same
  peel_same (calls.path p) same = (λ s. refl, refl)

  tree_same : (ps : List Piece) (m : Context) → AllByRecursion IsPlain ps → MayBeSame m.anchor → All (tree_of ps m)
  tree_same [] m plain anchor = tt
  tree_same (exclude ∷ ps) m plain anchor = ((λ s. refl, refl), tree_same ps m plain.1 anchor, λ e. tt)
  tree_same (regex wanted raw negated ∷ ps) m plain anchor = ((λ s. refl, refl), tree_same ps m plain.1 anchor, λ e. tt)
  tree_same (index p stage ∷ ps) m plain anchor = ((λ s. refl, refl), tree_same ps m plain.1 anchor, λ e. tt)
  tree_same (head ∷ ps) m plain anchor = (same_head, tree_same ps (after_reference m HEAD) plain.1 same_head, λ e. tt)
  tree_same (name text whole attempt ∷ ps) m plain anchor =
      let same = same_name text plain.0.1 plain.0.2 in
      attempts_same text whole attempt m (λ n. tree_of ps n) plain.0.0 same (tree_same ps (after_reference m text) plain.1 same)
  tree_same (branch number inner ∷ ps) m plain anchor = ((λ s. refl, refl), tree_same ps m plain.1 anchor, λ e. tt)
  tree_same (reflog query own inner ∷ ps) m plain anchor =
      reference_same m.own_prefix ReflogWithoutName own (demand (calls.reflog query) AtRefused (Some inner) (tree_of ps m)) ((λ s. refl, refl), tree_same ps m plain.1 anchor, λ e. tt)
  tree_same (sibling which own inner ∷ ps) m plain anchor =
      reference_same m.own_prefix SiblingWithoutName own (demand (calls.sibling which) AtRefused (Some inner) (tree_of ps m)) ((λ s. refl, refl), tree_same ps m plain.1 anchor, λ e. tt)
  tree_same (date meaning own inner ∷ ps) m plain anchor =
      reference_same m.own_prefix ReflogWithoutName own (at_time (meaning m.now) inner (tree_of ps m)) (time_same (meaning m.now) inner (tree_of ps m) (tree_same ps m plain.1 anchor))
  tree_same (unescaped ∷ ps) m plain anchor = tree_same ps m plain.1 anchor
  tree_same (step t after ∷ ps) m plain anchor = ((λ s. refl, refl), tree_same ps m plain.1 anchor, λ e. tt)
  tree_same (peel target after ∷ ps) m plain anchor = (peel_same target plain.0, tree_same ps m plain.1 anchor, λ e. tt)
  tree_same (path p ∷ ps) m plain anchor = ((λ s. refl, refl), tree_same ps m plain.1 anchor, λ e. tt)
  tree_same (closer k rest ∷ ps) m plain anchor = ((λ s. refl, refl), ((λ s. refl, refl), tree_same ps m plain.1 anchor, λ e. tt), λ e. tt)
  tree_same (without_parent number after rest ∷ ps) m plain anchor =
      ((λ s. refl, refl), ((λ s. refl, refl), repeat_same m.anchor after (demand done DoneRefusedInNavigation (Some rest) (tree_of ps m)) anchor ((λ s. refl, refl), tree_same ps m plain.1 anchor, λ e. tt), λ e. tt), λ e. tt)
  tree_same (range k ∷ ps) m plain anchor = ((λ s. refl, refl), tree_same ps (next_revision m) plain.1 anchor, λ e. tt)
  tree_same (finish ∷ ps) m plain anchor = ((λ s. refl, refl), tree_same ps m plain.1 anchor, λ e. tt)
  tree_same (finished ∷ ps) m plain anchor = tree_same ps m plain.1 anchor
  tree_same (fault f input ∷ ps) m plain anchor = tt

  pub orders_agree : OrdersAgree known h
  orders_agree text now u l plain =
      let all = tree_same (pieces_of text) (start now) plain tt in
      (λ run. same_run (digits_first known h) (names_first known h) run all, λ run. same_run (names_first known h) (digits_first known h) run (flip (digits_first known h) (names_first known h) (tree_of (pieces_of text) (start now)) all))
