use Rattle.std.proofs.Common.{◌∙◌, [], Some}
use Rattle.gix_date.specs.DateWords.{words_of}
use Rattle.gix_date.proofs.Counts.{ago_from-ago_of}
use Rattle.gix_date.proofs.Words.{ago_from-count, ago_from-none}
use Rattle.gix_date.proofs.date.ago.ago_of.Goals as goal

pub loop-after-init : goal.loop-after-init
loop-after-init c = ago_from-ago_of c.args.text.now

pub returns-in_err-rest : goal.returns-in_err-rest
returns-in_err-rest c =
    let first = rw c.in-Some.is at c.first_word.ensures.words in
    let second = rw c.in_err-rest.was at c.first_word-in-loop-after.ensures.words in
    c.from_residual-in_err-rest.ensures ∙ ago_from-none (Some c.in_ok-with_count.field-0)
    ∙ ago_from-count c.loop-after.sum c.loop-after.rest.now c.in-Some.after.now _ _ [] c.in_ok-with_count.field-0 first second c.in_ok-with_count.ensures
    ∙ c.loop-after.invariant

pub loop-after-preserved : goal.loop-after-preserved
loop-after-preserved c =
    let first = rw c.in-Some.is at c.first_word.ensures.words in
    let second = rw c.in_ok-rest.was at c.first_word-in-loop-after.ensures.words in
    ago_from-count c.loop-after.sum c.loop-after.rest.now c.in-Some.after.now _ _ (words_of c.in_ok-rest.rest.now) c.in_ok-with_count.field-0 first second c.in_ok-with_count.ensures
    ∙ c.loop-after.invariant
