use Rattle.std.proofs.Common.{◌++◌, ap, ◌∙◌}
use Rattle.parse_options.proofs.Behind.{read_behind}
use Rattle.parse_options.proofs.exact.value_in.Goals as goal

pub returns-in-Some : goal.returns-in-Some
returns-in-Some g c =
    read_behind c.args.option.now c.args.word.now c.in-Some.rest.now c.value_behind.result
    (c.in-Some.ensures ∙ ap (λ x. x ++ c.in-Some.rest.now) c.as_bytes.ensures.value) c.value_behind.ensures
