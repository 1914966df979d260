use Rattle.std.proofs.Common.{◌<◌, Some, ap, sym, subst, ◌∙◌, ℕ, List}
use Rattle.gix_ids.specs.TableForm.{IsSorted}
use Rattle.gix_ids.specs.TableLookup.{IsAt, IsAbsent}
use Rattle.gix_pack.specs.IndexForm.{count_of, offset_at}
use Rattle.gix_ids.specs.declared.table.Table.{Table}
use Rattle.gix_pack.proofs.Objects.{objects-has, objects-lacks, below-count}
use Rattle.gix_pack.proofs.index.file.Index.find.Goals as goal

pub read_offset-requires-clause-here : goal.read_offset-requires-clause-here
read_offset-requires-clause-here g c =
    let s = g.B.AsSlice.items c.self.inside.bytes in
    let C : List ℕ → Type 0 = λ b. c.in-Some.i < count_of b in
    subst C (sym c.as_slice-bytes.ensures) (below-count s c.self.inside.table c.self.invariant.0 c.in-Some.i c.in-Some.ensures.below)

pub returns-in-Some : goal.returns-in-Some
returns-in-Some g c =
    let s = g.B.AsSlice.items c.self.inside.bytes in
    let l = c.self.inside.table in
    let laid = c.self.invariant.0 in
    let S : Table → Type 0 = λ t. IsSorted s t in
    let sorted = subst S (sym laid) c.self.invariant.1.sorted in
    let P : List ℕ → Type 0 = λ b. IsAt b l c.args.id c.in-Some.i in
    let has = objects-has s l laid sorted c.args.id c.in-Some.i (subst P c.as_slice-bytes.ensures c.in-Some.ensures) in
    rw (← c.self.view_is) (ap Some (c.read_offset.ensures ∙ ap (λ b. offset_at b c.in-Some.i) c.as_slice-bytes.ensures) ∙ sym has)

pub returns-in-None : goal.returns-in-None
returns-in-None g c =
    let s = g.B.AsSlice.items c.self.inside.bytes in
    let l = c.self.inside.table in
    let laid = c.self.invariant.0 in
    let S : Table → Type 0 = λ t. IsSorted s t in
    let sorted = subst S (sym laid) c.self.invariant.1.sorted in
    let P : List ℕ → Type 0 = λ b. IsAbsent b l c.args.id in
    rw (← c.self.view_is) (sym (objects-lacks s l laid c.args.id (subst P c.as_slice-bytes.ensures c.in-None.ensures)))
