-- What the definitions of the reading are, case by case.
use Rattle.std.proofs.Common.{◌≡◌, ℕ, ◌==◌, ◌++◌, List, [], ◌∷◌, Bool, true, false, Option, Some, Result, Ok, length, refl, sym, subst, take, zero, suc, arith}
use Rattle.std.proofs.lemmas.Bool.{eqb-true}
use Rattle.gix_spec.specs.declared.spec.parse.Error.{Error}
use Rattle.gix_spec.specs.declared.spec.parse.context.Stopped.{Stopped}
use Rattle.gix_spec.specs.declared.spec.parse.fault.Fault.TheVariants.{Unconsumed}
use Rattle.gix_spec.specs.declared.spec.parse.part.Behind.{Behind}
use Rattle.gix_spec.specs.declared.spec.parse.part.Way.{Way as FoundWay}
use Rattle.gix_spec.specs.declared.spec.parse.part.Way.TheVariants as ways
use Rattle.gix_spec.specs.Answer.{Answer}
use Rattle.gix_spec.specs.Call.{Call}
use Rattle.gix_spec.specs.Context.{Context}
use Rattle.gix_spec.specs.Found.{way_of}
use Rattle.gix_spec.specs.Names.{anchor_by, at_part, named}
use Rattle.gix_spec.specs.Performs.{Performs, Reads}
use Rattle.gix_spec.specs.Pieces.{Piece, fault, finished}
use Rattle.gix_spec.specs.Part.{Part, Way, onward, closed, broken, followed}
use Rattle.gix_spec.specs.Reading.{end_at, closed_end, after_first, ranged, range_mark, unless_broken}
use Rattle.gix_spec.proofs.Runs.{performs_then}

-- the end of a text that is not read whole
pub end_at-left : (rest : List ℕ) → false ≡ (length rest == 0) → end_at rest ≡ fault Unconsumed (Some rest) ∷ []
end_at-left [] h = cc
end_at-left (b ∷ rest) h = refl

-- the same behind a closer
closed_end-left : (rest : List ℕ) → false ≡ (length rest == 0) → closed_end rest ≡ fault Unconsumed (Some rest) ∷ []
closed_end-left [] h = cc
closed_end-left (b ∷ rest) h = refl

pub after_first-left : (v : Way) (excluded : Bool) (text rest given : List ℕ) → closed ≡ v → given ≡ rest → false ≡ (length given == 0) →
    after_first v excluded text rest ≡ fault Unconsumed (Some given) ∷ []
after_first-left onward excluded text rest given e same h = cc
after_first-left closed excluded text rest given e same h = subst (λ r. closed_end r ≡ fault Unconsumed (Some given) ∷ []) same (closed_end-left given h)
after_first-left broken excluded text rest given e same h = cc

closed_end-whole : (rest : List ℕ) → true ≡ (length rest == 0) → closed_end rest ≡ finished ∷ []
closed_end-whole [] h = refl
closed_end-whole (b ∷ rest) h = absurd (omega (arith, eqb-true _ _ (sym h)))

-- nothing is left behind a closer
pub after_first-whole : (v : Way) (excluded : Bool) (text rest given : List ℕ) → closed ≡ v → given ≡ rest → true ≡ (length given == 0) →
    after_first v excluded text rest ≡ finished ∷ []
after_first-whole onward excluded text rest given e same h = cc
after_first-whole closed excluded text rest given e same h = subst (λ r. closed_end r ≡ finished ∷ []) same (closed_end-whole given h)
after_first-whole broken excluded text rest given e same h = cc

-- reading goes on behind the first side
pub after_first-onward : (v : Way) (excluded : Bool) (text rest given : List ℕ) → onward ≡ v → given ≡ rest →
    after_first v excluded text rest ≡ ranged excluded text given (range_mark given)
after_first-onward onward excluded text rest given e same = rw same refl
after_first-onward closed excluded text rest given e same = cc
after_first-onward broken excluded text rest given e same = cc

-- a text that has a name
pub anchor_by-named : (text : List ℕ) (n : ℕ) → (n ≡ 0 → ⊥) → anchor_by text n ≡ followed (named text n) (at_part (take n text))
anchor_by-named text zero h = absurd (h refl)
anchor_by-named text (suc n) h = refl

unless_broken-found : (v : Way) (w : FoundWay) (ps : List Piece) → way_of w ≡ v → unless_broken v ps ≡ ps
unless_broken-found onward w ps h = refl
unless_broken-found closed w ps h = refl
unless_broken-found broken ways.Onward ps h = cc
unless_broken-found broken ways.Closed ps h = cc

-- what is read behind the second side
pub second_reads : {S X : Type 0} (by : S → Call → Answer → S → Type 0) (p : Part) (more : List ℕ → List Piece) {m n k : Context} {s u w : S} {b : Behind} {e error : Option Error} {out : Result X Stopped} →
    Reads by p s m u n (Ok b) e → Performs by (more b.rest.now) u n w k out error → Performs by (p.pieces ++ unless_broken p.way (more p.rest)) s m w k out error
second_reads by p more {b} f g =
    performs_then by f.calls (rw (unless_broken-found p.way b.way (more p.rest) f.behind.1) (rw f.behind.0 at g))
