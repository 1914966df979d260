use Rattle.std.proofs.Common.{◌≢◌, []}
use Rattle.parse_options.proofs.Next.{letters_next}
use Rattle.parse_options.proofs.Places.{clash}
use Rattle.parse_options.proofs.reader.Reader.read.Goals as goal

pub returns-then-not-is_at_word : goal.returns-then-not-is_at_word
returns-then-not-is_at_word g c =
    let some : c.args.self.now.letters ≢ [] = λ e. clash c.is_at_word.result (c.is_at_word.ensures.1 e) c.if-not-is_at_word.true in
    letters_next c.args.self.now c.short.new.self c.short.result some c.short.ensures
