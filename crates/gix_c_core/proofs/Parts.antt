-- The part of a text that a fault names.
use Rattle.std.proofs.Common.{◌+◌, ℕ, List, ◌++◌, Option, None, Some, Bor, length, sym, subst, ◌∙◌, arith}
use Rattle.std.proofs.lemmas.List.{get_or-append-add, get_or_append_left, length-append}
use Rattle.std.specs.Prelude.{Ok, Err, IfSome, Result}
use Rattle.gix_base.specs.declared.date.Time.{Time}
use Rattle.gix_base.specs.declared.error.Exn.{Exn}
use Rattle.gix_spec.specs.Answer.{Answer}
use Rattle.gix_revision.specs.Types.Spec.{Spec}
use Rattle.gix_spec.specs.Call.{Call}
use Rattle.gix_spec.specs.declared.spec.parse.fault.Fault.{Fault}
use Rattle.gix_spec.specs.declared.spec.parse.Error.{Error}
use Rattle.gix_spec.specs.declared.spec.parse.Error.TheVariants.{OutOfMemory, Refused}
use Rattle.gix_spec.proofs.Promises.{names_part}
use Rattle.gix_resolve.specs.Resolved.{Ends}
use Rattle.gix_resolve.specs.Steps.{start}
use Rattle.gix_resolve.specs.declared.state.State.{State}
use Rattle.memchr.specs.Find.{OccursAt, Nowhere}
use Rattle.gix_spec.specs.Ends.{IsPartOf}
use Rattle.gix_c_core.specs.Readings.{NamesPart}

occurs : (before part after : List ℕ) → OccursAt (before ++ (part ++ after)) part (length before)
occurs before part after = record {
  fits = let e = length-append before (part ++ after) in let f = length-append part after in omega (arith, e, f);
  reads = λ j lt. get_or-append-add before (part ++ after) j 0 ∙ get_or_append_left part after 0 j lt;
}

-- so it is found
pub found : (text part : List ℕ) → IsPartOf part text → Nowhere (OccursAt text part) 0 (length text + 1) → ⊥
found text part is none =
    let o : OccursAt text part (length is.0) = subst (λ (t : List ℕ). OccursAt t part (length is.0)) (sym is.2) (occurs is.0 part is.1) in
    none (length is.0) (omega arith) (let f = o.fits in omega (arith, f)) o

-- the part that a refusal names is a part of the text
part-of : (step : State → Call → Answer → State → Type 0) (text : List ℕ) (now : Time) (f : Fault) (input : Option (Bor (List ℕ))) (first second : Option Exn)
    → Ends step text now (Err (Refused f input first second)) → IfSome input (λ p. IsPartOf p.now text)
part-of step text now f None first second e = tt
part-of step text now f (Some p) first second e = names_part step text now start e.0 f p.now first second e.1

-- the same of each answer
pub part_named : (step : State → Call → Answer → State → Type 0) (text : List ℕ) (now : Time) (r : Result Spec Error)
    → Ends step text now r → NamesPart text r
part_named step text now (Ok spec) e = tt
part_named step text now (Err OutOfMemory) e = tt
part_named step text now (Err (Refused f input first second)) e = part-of step text now f input first second e
