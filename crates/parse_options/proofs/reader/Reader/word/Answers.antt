use Rattle.std.proofs.Common.{◌≡◌, true, false, sym, ap, ◌∙◌, inl, inr}
use Rattle.parse_options.specs.Line.{next_of}
use Rattle.parse_options.proofs.Next.{plain_next, long_next, short_next}
use Rattle.parse_options.proofs.reader.Reader.word.Goals as goal

pub returns-then-self : goal.returns-then-self
returns-then-self g c =
    let only : c.args.self.now.only_arguments ≡ true = sym (ap (λ l. l.only_arguments) c.self.view_is) ∙ c.if-self.true in
    plain_next c.args.self.now c.argument.new.self c.args.word.now (next_of c.argument.result) c.requires.letters c.requires.words
    (inl only) c.argument.ensures.next c.argument.ensures.after

pub returns-in-Argument : goal.returns-in-Argument
returns-in-Argument g c =
    plain_next c.args.self.now c.argument-in-Argument.new.self c.args.word.now (next_of c.argument-in-Argument.result) c.requires.letters c.requires.words
    (inr c.in-Argument.ensures) c.argument-in-Argument.ensures.next c.argument-in-Argument.ensures.after

pub returns-in-Long : goal.returns-in-Long
returns-in-Long g c =
    let may : c.args.self.now.only_arguments ≡ false = sym (ap (λ l. l.only_arguments) c.self.view_is) ∙ c.if-self.false in
    long_next c.args.self.now c.take-in-Long.new.self c.long.new.self c.args.word.now c.in-Long.text.now c.long.result c.requires.letters c.requires.words
    may c.in-Long.ensures.0 c.in-Long.ensures.1 c.take-in-Long.ensures.after c.long.ensures

pub returns-in-Short : goal.returns-in-Short
returns-in-Short g c =
    let may : c.args.self.now.only_arguments ≡ false = sym (ap (λ l. l.only_arguments) c.self.view_is) ∙ c.if-self.false in
    short_next c.args.self.now c.enter.new.self c.short.new.self c.args.word.now c.short.result c.requires.letters c.requires.words
    may c.in-Short.ensures c.enter.ensures c.short.ensures
