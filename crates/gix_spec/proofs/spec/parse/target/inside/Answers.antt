use Rattle.std.proofs.Common.{sym}
use Rattle.std.specs.Cow.{cow_slice_items}
use Rattle.gix_spec.specs.Opens.{braced_of}
use Rattle.gix_spec.proofs.Marked.{inside_target-regex, inside_target-peeled}
use Rattle.gix_spec.proofs.spec.parse.target.inside.Goals as goal

pub returns-in-Some : goal.returns-in-Some
returns-in-Some g c =
    let braces = c.args.braces.now in
    let marked = rw c.as_ref-meant.ensures.value at (sym c.in-Some.ensures) in
    rw (inside_target-regex (cow_slice_items braces.meant) c.in-Some.more.now (braced_of braces) c.args.after.now marked) (rw c.behind.ensures at c.regex.ensures)

pub returns-in-None : goal.returns-in-None
returns-in-None g c =
    let braces = c.args.braces.now in
    let unmarked = rw c.as_ref-meant.ensures.value at (sym c.in-None.ensures) in
    rw (inside_target-peeled (cow_slice_items braces.meant) (braced_of braces) c.args.after.now unmarked)
    (rw (c.peeled.ensures, c.named.ensures, c.as_ref-meant.ensures.value) at c.read.ensures)
