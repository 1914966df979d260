-- What was found in braces, and the part that it is.
use Rattle.std.proofs.Common.{◌≡◌, ℕ, ◌+◌, ◌-◌, List, Bool, true, false, Option, Some, None, Result, Ok, Err, refl, sym, ◌∙◌, ap, subst, arith, length, take, drop, length-drop}
use Rattle.std.proofs.lemmas.List.{length-take-le}
use Rattle.gix_spec.specs.declared.spec.parse.Error.{Error}
use Rattle.gix_spec.specs.declared.spec.parse.context.Stopped.{Stopped}
use Rattle.std.specs.Borrow.{Bor}
use Rattle.gix_spec.specs.declared.spec.parse.Error.TheVariants as errors
use Rattle.gix_spec.specs.declared.spec.parse.braces.Unopened.{Unopened}
use Rattle.gix_spec.specs.declared.spec.parse.braces.Unopened.TheVariants.{OutOfMemory, Unclosed}
use Rattle.gix_spec.specs.declared.spec.parse.part.Behind.{Behind}
use Rattle.gix_spec.specs.declared.spec.parse.braces.Braced.{Braced as FoundBraced}
use Rattle.gix_spec.specs.Call.{Call}
use Rattle.gix_spec.specs.Answer.{Answer}
use Rattle.gix_spec.specs.Context.{Context}
use Rattle.gix_spec.specs.Marks.{brace, starts_with}
use Rattle.gix_spec.specs.Part.{Part}
use Rattle.gix_spec.specs.Performs.{Reads}
use Rattle.gix_spec.specs.Braces.{Braced, braced_at, braced_by, behind_escapes, in_braces, close_of}
use Rattle.gix_spec.specs.Parens.{IsPair, ParensGives}
use Rattle.gix_spec.specs.Opens.{braced_of, NotOpened, unopened_error, Opens}
use Rattle.gix_spec.proofs.Runs.{performs_room, performs_short, performs_fault}
use Rattle.gix_spec.proofs.Pairs.{pair_of, no_pair}

-- a pair that was not opened
not_given : (A : Type 0) (text : Bor (List ℕ)) (pair : Option Braced) (why : Unopened) →
    braced_at text.now ≡ pair → starts_with brace text.now ≡ true → NotOpened pair why → ParensGives {A = A} text.now (Err (unopened_error why text))
not_given A text None OutOfMemory same h k = absurd k
not_given A text (Some x) OutOfMemory same h k =
    let pair = pair_of text.now x same in (h, pair.0, subst (λ y. y.escapes ≡ true) (sym pair.1) k)
not_given A text pair Unclosed same h k = (h, no_pair text.now (same ∙ k), refl, refl, refl, refl)

pub parens_err : (A : Type 0) (text : Bor (List ℕ)) (why : Unopened) → starts_with brace text.now ≡ true → NotOpened (braced_at text.now) why → ParensGives {A = A} text.now (Err (unopened_error why text))
parens_err A text why h k = not_given A text (braced_at text.now) why refl h k

-- one that was
pub parens_ok : {A : Type 0} (text : List ℕ) (x : FoundBraced A) → starts_with brace text ≡ true → Opens text (Ok x) → IsPair text (x.meant, x.rest, length x.raw.now + 2)
parens_ok text x h k =
    let pair = pair_of text (braced_of x) k.0 in
    let n : ℕ = close_of text in
    let raw : take (n - 1) (drop 1 text) ≡ x.raw.now = ap (λ y. y.raw) pair.1 in
    let long : length (take (n - 1) (drop 1 text)) ≡ n - 1 = length-take-le (n - 1) (drop 1 text) (omega (arith, pair.0, k.1, length-drop 1 text)) in
    let consumed : length x.raw.now + 2 ≡ n + 1 = omega (arith, ap length raw, long, k.1) in
    let shift : n + 1 - 2 ≡ n - 1 = omega arith in
    record {
      begins = h;
      closes = consumed;
      within = omega (arith, consumed, pair.0);
      inner = sym (ap (λ y. y.meant) pair.1) ∙ rw (consumed, shift) refl;
      rest = sym (ap (λ y. y.rest) pair.1) ∙ rw consumed refl;
      borrowed = λ plain. k.2 (sym (ap (λ y. y.escapes) pair.1) ∙ rw consumed at plain);
    }

module _ {S : Type 0} (by : S → Call → Answer → S → Type 0) where
  -- what is read behind braces, where escapes were taken out of them and where none were
  room_reads : (escapes : Bool) (p : Part) {m n : Context} {s u : S} {out : Result Behind Stopped} {error : Option Error} → Reads by p s m u n out error → Reads by (behind_escapes escapes p) s m u n out error
  room_reads true p h = record { calls = performs_room by h.calls; behind = h.behind }
  room_reads false p h = h

  read_by : (pair : Option Braced) (text : List ℕ) (reading : Braced → Part) (x : Braced) {m n : Context} {s u : S} {out : Result Behind Stopped} {error : Option Error} →
      pair ≡ Some x → Reads by (reading x) s m u n out error → Reads by (braced_by pair text reading) s m u n out error
  read_by pair text reading x e h = rw e (room_reads x.escapes (reading x) h)

  pub braces_read : {A : Type 0} (text : List ℕ) (reading : Braced → Part) (x : FoundBraced A) {m n : Context} {s u : S} {out : Result Behind Stopped} {error : Option Error} →
      Opens text (Ok x) → Reads by (reading (braced_of x)) s m u n out error → Reads by (in_braces text reading) s m u n out error
  unfolding in_braces
  braces_read text reading x e h = read_by (braced_at text) text reading (braced_of x) e.0 h

  stop_room : (escapes : Bool) (p : Part) {m n : Context} {s : S} {x : Stopped} → escapes ≡ true → Reads by (behind_escapes escapes p) s m s n (Err x) (Some errors.OutOfMemory)
  stop_room true p h = record { calls = performs_short by; behind = tt }
  stop_room false p h = cc

  stop_by : (pair : Option Braced) (text : Bor (List ℕ)) (reading : Braced → Part) (why : Unopened) {m n : Context} {s : S} {x : Stopped} →
      NotOpened pair why → Reads by (braced_by pair text.now reading) s m s n (Err x) (Some (unopened_error why text))
  stop_by None text reading OutOfMemory h = absurd h
  stop_by (Some x) text reading OutOfMemory h = stop_room x.escapes (reading x) h
  stop_by None text reading Unclosed h = record { calls = performs_fault by refl; behind = tt }
  stop_by (Some x) text reading Unclosed h = cc h

  -- braces that were not opened end the run
  pub braces_stop : (text : Bor (List ℕ)) (reading : Braced → Part) (why : Unopened) {m n : Context} {s : S} {x : Stopped} →
      NotOpened (braced_at text.now) why → Reads by (in_braces text.now reading) s m s n (Err x) (Some (unopened_error why text))
  unfolding in_braces
  braces_stop text reading why h = stop_by (braced_at text.now) text reading why h
