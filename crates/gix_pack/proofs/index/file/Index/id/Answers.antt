use Rattle.std.proofs.Common.{Some, ap, sym, ◌∙◌, arith, ℕ}
use Rattle.std.specs.Option.{option_map}
use Rattle.gix_base.specs.declared.hash.ObjectId.{ObjectId}
use Rattle.gix_ids.specs.TableForm.{id_of}
use Rattle.gix_pack.proofs.Objects.{objects-id, objects-past}
use Rattle.gix_pack.proofs.index.file.Index.id.Goals as goal

pub returns-then-position-self : goal.returns-then-position-self
returns-then-position-self g c =
    let s = g.B.AsSlice.items c.self.inside.bytes in
    let l = c.self.inside.table in
    let laid = c.self.invariant.0 in
    rw (← c.self.view_is) (ap Some (c.id_at.ensures ∙ ap (λ b. id_of b l c.args.position) c.as_slice.ensures) ∙ sym (objects-id s l laid c.args.position c.if-position-self.true))

pub returns-else-position-self : goal.returns-else-position-self
returns-else-position-self g c =
    let s = g.B.AsSlice.items c.self.inside.bytes in
    let l = c.self.inside.table in
    let laid = c.self.invariant.0 in
    rw (← c.self.view_is) (sym (ap (option_map (λ (e : ObjectId × ℕ). e.0)) (objects-past s l laid c.args.position (omega arith))))
