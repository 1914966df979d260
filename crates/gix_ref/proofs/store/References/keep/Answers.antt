use Rattle.std.proofs.Common.{List, [], ◌∷◌, refl, inr}
use Rattle.std.specs.Option.{option_map}
use Rattle.gix_ref_text.specs.Known.{Read}
use Rattle.gix_ref.proofs.Knows.{kept}
use Rattle.gix_ref.proofs.store.References.keep.Goals as goal

pub returns-clause-grows : goal.returns-clause-grows
returns-clause-grows g c =
    let more : List Read = record { name = c.args.name.now; content = option_map (λ v. v.items) c.args.content } ∷ [] in
    record {
      loose = (more, kept c.args.self.now.readings.items _ _ _ c.in_ok-push.ensures.items c.in_ok-name.ensures.items);
      packed = inr refl;
    }

pub returns-clause-kept : goal.returns-clause-kept
returns-clause-kept g c = kept c.args.self.now.readings.items _ _ _ c.in_ok-push.ensures.items c.in_ok-name.ensures.items
