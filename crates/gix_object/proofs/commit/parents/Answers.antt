use Rattle.std.proofs.Common.{[], List, sym, ◌∙◌, subst, append-nil}
use Rattle.gix_base.specs.declared.hash.ObjectId.{ObjectId}
use Rattle.gix_object.specs.CommitForm.{AreParents}
use Rattle.gix_object.specs.CommitForm.AreParents.{none}
use Rattle.gix_object.specs.CommitForm.IsBroken.{here}
use Rattle.gix_object.proofs.Parents.{one_more, broken_later}
use Rattle.gix_object.proofs.commit.parents.Goals as goal

pub returns-in_default-clause-unread : goal.returns-in_default-clause-unread
returns-in_default-clause-unread g c =
    c.lines.invariant.broken (here c.lines.rest.now (sym c.is_parent.ensures ∙ c.lines-test.true) c.in_default.ensures)

pub lines-preserved : goal.lines-preserved
lines-preserved g c = record {
  read = one_more c.args.tree c.args.text.now c.lines.rest.now _ c.lines.ids.items _ c.in-Some.id c.in-Some.ensures.0 c.in-Some.ensures.1 c.in_ok-add.ensures c.after_line-rest.ensures.rest c.lines.invariant.read;
  broken = broken_later c.args.tree c.args.text.now c.lines.rest.now _ c.lines.ids.items _ c.in-Some.id c.in-Some.ensures.0 c.in-Some.ensures.1 c.in_ok-add.ensures c.after_line-rest.ensures.rest c.lines.invariant.broken;
}

pub returns-clause-read : goal.returns-clause-read
returns-clause-read g c =
    let P : List ObjectId → Type 0 = λ ids. AreParents c.args.tree c.args.text.now ids c.lines.rest.now in
    subst P (append-nil c.lines.ids.items) (c.lines.invariant.read [] c.lines.rest.now (none c.lines.rest.now (sym c.is_parent.ensures ∙ c.lines-test.false)))
