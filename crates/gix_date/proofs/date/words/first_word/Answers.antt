use Rattle.gix_date.proofs.Words.{words_of-ended, words_of-parted}
use Rattle.gix_date.proofs.date.words.first_word.Goals as goal

pub returns-in-empty-clause-words : goal.returns-in-empty-clause-words
returns-in-empty-clause-words c =
    words_of-ended c.args.text.now c.word_len.result c.split_at.result.0.now c.split_at.result.1.now
    c.word_len.ensures.value c.split_at.ensures.front c.split_at.ensures.back c.in-empty.len_below

pub returns-in-len1-up-clause-words : goal.returns-in-len1-up-clause-words
returns-in-len1-up-clause-words c =
    words_of-parted c.args.text.now c.word_len.result c.split_at.result.0.now c.split_at.result.1.now c.without_gap.result.now
    c.word_len.ensures.value c.split_at.ensures.front c.split_at.ensures.back c.in-len1-up.len_at_least c.without_gap.ensures.words
