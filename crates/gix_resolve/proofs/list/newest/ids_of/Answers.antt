use Rattle.std.proofs.lemmas.Grind.{common_steps}
use Rattle.std.below.core.proofs.iter.Serving.{as_err}
use Rattle.std.proofs.Common.{ap, ◌∙◌, map, arith}
use Rattle.std.proofs.lemmas.List.{take_all}
use Rattle.gix_merge_base.specs.Candidates.{id_in}
use Rattle.gix_resolve.proofs.list.newest.ids_of.Goals as goal

pub returns : goal.returns
returns g c = c.loop-id.invariant.ids ∙ ap (map id_in) (take_all c.loop-id.id-index c.args.all.now (omega arith))

pub push_reserved-requires : goal.push_reserved-requires
push_reserved-requires g c = omega (arith, c.loop-id.invariant.len, c.loop-id.invariant.room)

pub loop-id-preserved : goal.loop-id-preserved
loop-id-preserved g c = record {
  ids = grind (arith, common_steps);
  len = omega (arith, c.push_reserved.ensures.len, c.loop-id.invariant.len);
  room = omega (arith, c.push_reserved.ensures.capacity, c.loop-id.invariant.room);
}

pub returns-in_err-ids : goal.returns-in_err-ids
returns-in_err-ids g c = rw (as_err c.from_residual.ensures.0).1 tt

pub offset_bounds-all-id-index : goal.offset_bounds-all-id-index
offset_bounds-all-id-index g c = record { fits = omega arith }
