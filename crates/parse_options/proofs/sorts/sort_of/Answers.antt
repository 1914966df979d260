use Rattle.std.proofs.Common.{sym, ◌∙◌}
use Rattle.parse_options.proofs.Texts.{short_word}
use Rattle.parse_options.proofs.sorts.sort_of.Goals as goal

pub returns-in-Some-after_front : goal.returns-in-Some-after_front
returns-in-Some-after_front c =
    short_word c.args.word.now c.in-Some-after_front.letters.now c.in-Some-after_front.ensures (sym c.is_empty.ensures ∙ c.if-not-is_empty.true) c.in_default.ensures
