use Rattle.std.proofs.Common.{sym, subst, List, ℕ}
use Rattle.gix_ids.specs.TableForm.{IsSorted}
use Rattle.gix_ids.specs.TableLookup.{IsAt, IsGap}
use Rattle.gix_ids.specs.declared.table.Table.{Table}
use Rattle.gix_pack.proofs.Objects.{ids-first-at, ids-first-gap, ids-rise}
use Rattle.gix_pack.proofs.index.file.Index.position_from.Goals as goal

pub returns-in-Ok-clause-first : goal.returns-in-Ok-clause-first
returns-in-Ok-clause-first g c =
    let s = g.B.AsSlice.items c.self.inside.bytes in
    let l = c.self.inside.table in
    let laid = c.self.invariant.0 in
    let S : Table → Type 0 = λ t. IsSorted s t in
    let sorted = subst S (sym laid) c.self.invariant.1.sorted in
    let P : List ℕ → Type 0 = λ b. IsAt b l c.args.id c.in-Ok.place in
    rw (← c.self.view_is) (ids-first-at s l laid sorted c.args.id c.in-Ok.place (subst P c.as_slice.ensures c.in-Ok.ensures.place))

pub returns-in-Ok-clause-rising : goal.returns-in-Ok-clause-rising
returns-in-Ok-clause-rising g c =
    let s = g.B.AsSlice.items c.self.inside.bytes in
    let l = c.self.inside.table in
    let laid = c.self.invariant.0 in
    let S : Table → Type 0 = λ t. IsSorted s t in
    let sorted = subst S (sym laid) c.self.invariant.1.sorted in
    rw (← c.self.view_is) (ids-rise s l laid sorted)

pub returns-in-Err-clause-first : goal.returns-in-Err-clause-first
returns-in-Err-clause-first g c =
    let s = g.B.AsSlice.items c.self.inside.bytes in
    let l = c.self.inside.table in
    let laid = c.self.invariant.0 in
    let S : Table → Type 0 = λ t. IsSorted s t in
    let sorted = subst S (sym laid) c.self.invariant.1.sorted in
    let P : List ℕ → Type 0 = λ b. IsGap b l c.args.id c.in-Err.place in
    rw (← c.self.view_is) (ids-first-gap s l laid sorted c.args.id c.in-Err.place (subst P c.as_slice.ensures c.in-Err.ensures.place))

pub returns-in-Err-clause-rising : goal.returns-in-Err-clause-rising
returns-in-Err-clause-rising g c =
    let s = g.B.AsSlice.items c.self.inside.bytes in
    let l = c.self.inside.table in
    let laid = c.self.invariant.0 in
    let S : Table → Type 0 = λ t. IsSorted s t in
    let sorted = subst S (sym laid) c.self.invariant.1.sorted in
    rw (← c.self.view_is) (ids-rise s l laid sorted)
