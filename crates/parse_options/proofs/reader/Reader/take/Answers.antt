use Rattle.std.proofs.Common.{ap, ◌∙◌}
use Rattle.parse_options.specs.Reader.{first}
use Rattle.parse_options.proofs.Words.{first_drop}
use Rattle.parse_options.proofs.reader.Reader.take.Goals as goal

pub returns-then-self-clause-word : goal.returns-then-self-clause-word
returns-then-self-clause-word g c =
    first_drop c.self.inside.words.now c.self.inside.next _ c.if-self.true ∙ ap (λ l. first l.words) c.self.view_is
