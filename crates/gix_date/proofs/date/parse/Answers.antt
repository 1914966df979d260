use Rattle.std.proofs.Common.{◌∙◌, sym}
use Rattle.gix_date.proofs.Readings.{date_of-no_text, date_of-raw, date_of-short, date_of-iso8601, date_of-word, date_of-relative, date_of-rfc2822}
use Rattle.gix_date.proofs.date.parse.Goals as goal

pub returns-then-not-is_text : goal.returns-then-not-is_text
returns-then-not-is_text c = date_of-no_text c.args.text.now c.args.now (sym c.is_text.ensures ∙ c.if-not-is_text.true)

pub returns-in-Some : goal.returns-in-Some
returns-in-Some c = date_of-raw c.args.text.now c.args.now _ (sym c.is_text.ensures ∙ c.if-not-is_text.false) c.in-Some.ensures

pub returns-in-Some-read : goal.returns-in-Some-read
returns-in-Some-read c =
    date_of-short c.args.text.now c.args.now _ (sym c.is_text.ensures ∙ c.if-not-is_text.false) c.in_default.ensures c.in-Some-read.ensures

pub returns-in-Some-read-2 : goal.returns-in-Some-read-2
returns-in-Some-read-2 c =
    date_of-iso8601 c.args.text.now c.args.now _ (sym c.is_text.ensures ∙ c.if-not-is_text.false) c.in_default.ensures c.in_default-read.ensures
    c.in-Some-read-2.ensures

pub returns-in-Some-read-3 : goal.returns-in-Some-read-3
returns-in-Some-read-3 c =
    date_of-word c.args.text.now c.args.now _ (sym c.is_text.ensures ∙ c.if-not-is_text.false) c.in_default.ensures c.in_default-read.ensures
    c.in_default-read-2.ensures c.in-Some-read-3.ensures

pub returns-in-Some-read-4 : goal.returns-in-Some-read-4
returns-in-Some-read-4 c =
    date_of-relative c.args.text.now c.args.now _ (sym c.is_text.ensures ∙ c.if-not-is_text.false) c.in_default.ensures c.in_default-read.ensures
    c.in_default-read-2.ensures c.in_default-read-3.ensures c.in-Some-read-4.ensures

pub returns : goal.returns
returns c =
    date_of-rfc2822 c.args.text.now c.args.now _ (sym c.is_text.ensures ∙ c.if-not-is_text.false) c.in_default.ensures c.in_default-read.ensures
    c.in_default-read-2.ensures c.in_default-read-3.ensures c.in_default-read-4.ensures c.read-6.ensures
