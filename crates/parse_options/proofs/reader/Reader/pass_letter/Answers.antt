use Rattle.std.proofs.Common.{◌≢◌, arith}
use Rattle.parse_options.proofs.Words.{passed}
use Rattle.parse_options.proofs.reader.Reader.pass_letter.Goals as goal

pub returns-then-self-word : goal.returns-then-self-word
returns-then-self-word g c =
    let some : c.self.inside.letter ≢ 0 = omega (arith, c.if-self-ne0.true) in
    passed c.self.inside c.args.self.now c.self.view_is some
