use Rattle.std.proofs.Common.{◌+◌, ◌∷◌, ◌++◌, length, sym, ap, ◌∙◌}
use Rattle.gix_object.specs.Lines.{after}
use Rattle.gix_object.proofs.Headers.{parts, no-header, other-header, header-short}
use Rattle.gix_object.proofs.loose.parse_header.Goals as goal

pub returns-in_default-clause-header : goal.returns-in_default-clause-header
returns-in_default-clause-header c = no-header c.args.bytes.now c.in_default.ensures

pub returns-in-Some-kind_and_size-clause-header : goal.returns-in-Some-kind_and_size-clause-header
returns-in-Some-kind_and_size-clause-header c = record {
  small = c.in-Some-kind_and_size.ensures.0;
  rest = after 0 c.args.bytes.now;
  begins = parts 0 c.args.bytes.now c.in-Some.ensures.0
      ∙ ap (λ header. header ++ (0 ∷ after 0 c.args.bytes.now)) (sym c.in-Some.ensures.1 ∙ c.in-Some-kind_and_size.ensures.1);
  ends = ap (λ header. length header + 1) c.in-Some-kind_and_size.ensures.1;
}

pub returns-in-Some-kind_and_size-clause-short : goal.returns-in-Some-kind_and_size-clause-short
returns-in-Some-kind_and_size-clause-short c =
    rw c.in-Some-kind_and_size.ensures.1 (header-short c.in-Some-kind_and_size.kind c.in-Some-kind_and_size.size c.in-Some-kind_and_size.ensures.0)

pub returns-in-None-clause-header : goal.returns-in-None-clause-header
returns-in-None-clause-header c =
    λ kind size rest small. other-header c.args.bytes.now kind size (λ is. c.in-None.ensures kind size small (c.in-Some.ensures.1 ∙ is)) small rest
