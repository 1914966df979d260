use Rattle.std.proofs.Common.{◌≡◌, [], ◌∷◌, drop, slice_index_or, subst}
use Rattle.parse_options.proofs.Words.{words_drop}
use Rattle.parse_options.proofs.reader.Reader.peek.Goals as goal

pub returns-then-self : goal.returns-then-self
returns-then-self g c =
    let word = (slice_index_or c.self.inside.words.now c.self.inside.next (record { ref_ptr = (0, 0); now = [] })).now in
    subst (λ l. l.words ≡ word ∷ drop 1 l.words) c.self.view_is (words_drop c.self.inside.words.now c.self.inside.next _ c.if-self.true)
