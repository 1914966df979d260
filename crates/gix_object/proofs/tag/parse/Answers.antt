use Rattle.std.proofs.Common.{◌∙◌, sym, arith}
use Rattle.gix_object.proofs.tag.parse.Goals as goal

pub after_line-text-requires : goal.after_line-text-requires
after_line-text-requires c = let long = c.in-Some.ensures.0.long in omega (arith, long)

pub returns-in_default-type_name-clause-refused : goal.returns-in_default-type_name-clause-refused
returns-in_default-type_name-clause-refused c = (c.in-Some.ensures.0, rw c.after_line-text.ensures.rest at c.in_default-type_name.ensures)

pub returns-in_default-kind_of_name-clause-refused : goal.returns-in_default-kind_of_name-clause-refused
returns-in_default-kind_of_name-clause-refused c =
    let type = rw c.after_line-text.ensures.rest at c.in-Some-type_name.ensures in
    (c.in-Some.ensures.0, type.0, λ kind is. c.in_default-kind_of_name.ensures kind (is ∙ sym type.1))

pub returns-in-Some-name_and_date-clause-read : goal.returns-in-Some-name_and_date-clause-read
returns-in-Some-name_and_date-clause-read c =
    let type = rw c.after_line-text.ensures.rest at c.in-Some-type_name.ensures in
    let name = rw (c.after.ensures, c.after_line-text.ensures.rest) at c.in-Some-name_and_date.ensures in
    record {
      object = c.in-Some.ensures.0;
      names = c.in-Some.ensures.1;
      type = type.0;
      says = c.in-Some-kind_of_name.ensures ∙ type.1;
      named = name.0;
      calls = name.1;
      dates = name.2;
    }

pub returns-in-None-clause-refused : goal.returns-in-None-clause-refused
returns-in-None-clause-refused c =
    let type = rw c.after_line-text.ensures.rest at c.in-Some-type_name.ensures in
    let name = rw (c.after.ensures, c.after_line-text.ensures.rest) at c.in-None.ensures in (
      c.in-Some.ensures.0,
      type.0,
      (c.in-Some-kind_of_name.kind, c.in-Some-kind_of_name.ensures ∙ type.1),
      name,
    )
