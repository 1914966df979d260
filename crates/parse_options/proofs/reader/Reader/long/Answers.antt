use Rattle.std.proofs.Common.{refl, inl}
use Rattle.parse_options.specs.Line.{slice_of}
use Rattle.parse_options.specs.Reader.{line_of}
use Rattle.parse_options.proofs.Next.{unread_long, reads_long, long_at}
use Rattle.parse_options.proofs.Places.{means_found, not_none}
use Rattle.parse_options.proofs.reader.Reader.long.Goals as goal

pub returns-in_default : goal.returns-in_default
returns-in_default g c =
    inl (refl, unread_long c.args.self.now (line_of c.self.inside) c.self.view_is c.args.text.now _ _ c.cut_value.ensures c.in_default.ensures)

pub returns-in_default-at : goal.returns-in_default-at
returns-in_default-at g c =
    let found = means_found c.self.inside.choices.now c.cut_value.result.0.now c.in-Some.meant.place c.in-Some.meant.is_no c.in-Some.ensures in
    absurd (not_none _ found.0 found.1 c.in_default-at.ensures)

pub returns : goal.returns
returns g c =
    reads_long c.args.self.now c.option.new.self c.args.text.now c.option.result c.in-Some-at.choice.now c.in-Some.meant.is_no (slice_of c.cut_value.result.1)
    (long_at c.args.self.now (line_of c.self.inside) c.self.view_is c.args.text.now c.cut_value.result.0.now (slice_of c.cut_value.result.1) c.in-Some-at.choice.now
    c.in-Some.meant.place c.in-Some.meant.is_no c.cut_value.ensures c.in-Some.ensures c.in-Some-at.ensures)
    c.option.ensures
