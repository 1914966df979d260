use Rattle.std.proofs.Common.{inl}
use Rattle.parse_options.specs.Reader.{line_of}
use Rattle.parse_options.proofs.Next.{short_unread, reads_letters}
use Rattle.parse_options.proofs.reader.Reader.short.Goals as goal

pub returns-in_default-with_letter : goal.returns-in_default-with_letter
returns-in_default-with_letter g c = λ letter rest e.
    inl (short_unread c.args.self.now (line_of c.self.inside) c.self.view_is c.letters-letters.result.now c.letters-letters.ensures
    c.in-Some.letter c.in-Some.ensures c.in_default-with_letter.ensures letter rest e)

pub returns : goal.returns
returns g c =
    reads_letters c.args.self.now (line_of c.self.inside) c.lettered.new.self c.self.view_is c.letters-letters.result.now c.letters-letters.ensures
    c.in-Some.letter c.in-Some.ensures c.from.result.now c.from.ensures c.lettered.result c.in-Some-with_letter.choice.now c.in-Some-with_letter.ensures c.lettered.ensures
