use Rattle.std.proofs.Common.{rules, ◌<◌, ◌∙◌, ap, sym, length}
use Rattle.std.specs.Int.{bit_at}
use Rattle.gix_describe.proofs.Sieve.{others_stay, own_is_set}
use Rattle.gix_describe.proofs.describe.sieve.Sieve.let_pass.Goals as goal

pub returns-clause-own : goal.returns-clause-own
returns-clause-own c =
    let within : c.word_of-at.result < length c.args.self.now.words = search rules in
    own_is_set c.args.self.now.words c.word_of-at.result c.with_bit-word.result within c.args.id.now c.word_of-at.ensures.value (ap (bit_at c.with_bit-word.result) (sym c.place_of.ensures.value) ∙ c.with_bit-word.ensures.own)

pub returns-clause-others : goal.returns-clause-others
returns-clause-others c =
    let within : c.word_of-at.result < length c.args.self.now.words = search rules in
    others_stay c.args.self.now.words c.word_of-at.result c.with_bit-word.result within c.with_bit-word.ensures.others
