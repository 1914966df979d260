use Rattle.std.proofs.Common.{sym}
use Rattle.gix_spec.proofs.Marked.{revision_at-colon, revision_at-tilde, revision_at-named}
use Rattle.gix_spec.proofs.spec.parse.function.revision.Goals as goal

pub returns-in-Some : goal.returns-in-Some
returns-in-Some g c = rw (revision_at-colon c.args.text.now c.in-Some.after.now (sym c.in-Some.ensures)) (rw c.colon_form.ensures at c.read.ensures)

pub returns-in-Some-after_mark : goal.returns-in-Some-after_mark
returns-in-Some-after_mark g c =
    rw (revision_at-tilde c.args.text.now _ (sym c.in_default.ensures) (sym c.in-Some-after_mark.ensures)) (rw c.refusal.ensures at c.read-in-Some-after_mark.ensures)

pub returns : goal.returns
returns g c = rw (revision_at-named c.args.text.now (sym c.in_default.ensures) (sym c.in_default-after_mark.ensures)) c.named_revision.ensures
