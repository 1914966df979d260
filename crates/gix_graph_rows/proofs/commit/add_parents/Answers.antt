use Rattle.std.proofs.Common.{arith, Result, OnOk, ◌∙◌, sym}
use Rattle.std.proofs.lemmas.Result.{on_ok_weaker}
use Rattle.gix_ids.specs.TableBytes.{word}
use Rattle.gix_graph_rows.specs.ChainRows.{file_at, id_there}
use Rattle.gix_graph_rows.specs.FilesRead.{files_of}
use Rattle.gix_graph_rows.proofs.NamedParents.{none_named, one_named, two_named, more_named, one_count, two_count, more_count}
use Rattle.gix_graph_rows.proofs.commit.add_parents.Goals as goal

from_ok : {T E P Q : Type 0} (r : Result T E) → OnOk r P → (P → Q) → OnOk r Q
from_ok r p f = on_ok_weaker r f p

pub returns-then-first-eq-NO_PARENT-clause-value : goal.returns-then-first-eq-NO_PARENT-clause-value
returns-then-first-eq-NO_PARENT-clause-value g c = λ h.
    none_named (id_there (files_of c.args.layers.now)) (file_at (files_of c.args.layers.now) c.args.child.layer) (word c.args.row.now.bytes 20) (word c.args.row.now.bytes 24)
    c.args.ids.now.items (sym c.first.ensures ∙ c.if-first-eq-NO_PARENT.true) c.requires.empty

pub returns-then-second-eq-NO_PARENT-clause-count : goal.returns-then-second-eq-NO_PARENT-clause-count
returns-then-second-eq-NO_PARENT-clause-count g c =
    one_count c.args.row.now.bytes _ (λ e. c.if-first-eq-NO_PARENT.false (c.first.ensures ∙ e)) (sym c.second-second.ensures ∙ c.if-second-eq-NO_PARENT.true)
    (omega (arith, c.in_ok-add_parent.ensures.added, c.requires.empty))

pub returns-then-second-eq-NO_PARENT-clause-value : goal.returns-then-second-eq-NO_PARENT-clause-value
returns-then-second-eq-NO_PARENT-clause-value g c = λ h.
    one_named (id_there (files_of c.args.layers.now)) (file_at (files_of c.args.layers.now) c.args.child.layer) (word c.args.row.now.bytes 20) (word c.args.row.now.bytes 24)
    c.add_parent.new.ids.items c.args.ids.now.items (λ e. c.if-first-eq-NO_PARENT.false (c.first.ensures ∙ e)) (sym c.second-second.ensures ∙ c.if-second-eq-NO_PARENT.true)
    c.requires.empty (rw c.first-2.ensures at (c.in_ok-add_parent.ensures.value h))

pub returns-then-second-lt-EDGE_BIT-clause-count : goal.returns-then-second-lt-EDGE_BIT-clause-count
returns-then-second-lt-EDGE_BIT-clause-count g c =
    from_ok c.add_parent-then-second-lt-EDGE_BIT.result c.add_parent-then-second-lt-EDGE_BIT.ensures.added (λ e.
    two_count c.args.row.now.bytes _ (λ e. c.if-first-eq-NO_PARENT.false (c.first.ensures ∙ e)) (λ e. c.if-second-eq-NO_PARENT.false (c.second-second.ensures ∙ e))
    (omega (arith, c.second-second.ensures, c.if-second-lt-EDGE_BIT.true)) (omega (arith, e, c.in_ok-add_parent.ensures.added, c.requires.empty)))

pub returns-then-second-lt-EDGE_BIT-clause-kept : goal.returns-then-second-lt-EDGE_BIT-clause-kept
returns-then-second-lt-EDGE_BIT-clause-kept g c = λ h old. rw c.add_parent.ensures.files at (c.add_parent-then-second-lt-EDGE_BIT.ensures.kept h) (c.add_parent.ensures.kept h old)

pub returns-then-second-lt-EDGE_BIT-clause-value : goal.returns-then-second-lt-EDGE_BIT-clause-value
returns-then-second-lt-EDGE_BIT-clause-value g c = λ h.
    from_ok c.add_parent-then-second-lt-EDGE_BIT.result (c.add_parent-then-second-lt-EDGE_BIT.ensures.value h) (λ e.
    two_named (id_there (files_of c.args.layers.now)) (file_at (files_of c.args.layers.now) c.args.child.layer) (word c.args.row.now.bytes 20) (word c.args.row.now.bytes 24)
    c.add_parent-then-second-lt-EDGE_BIT.new.ids.items c.args.ids.now.items (λ e. c.if-first-eq-NO_PARENT.false (c.first.ensures ∙ e)) (λ e. c.if-second-eq-NO_PARENT.false (c.second-second.ensures ∙ e))
    (omega (arith, c.second-second.ensures, c.if-second-lt-EDGE_BIT.true)) c.requires.empty
    (rw (c.add_parent.ensures.files, c.second-second.ensures, c.in_ok-add_parent.ensures.value h, c.first-2.ensures) at e))

pub returns-clause-count : goal.returns-clause-count
returns-clause-count g c =
    from_ok c.add_list.result c.add_list.ensures.added (λ e.
    more_count c.args.row.now.bytes _ (λ e. c.if-first-eq-NO_PARENT.false (c.first.ensures ∙ e)) (λ e. c.if-second-eq-NO_PARENT.false (c.second-second.ensures ∙ e))
    (omega (arith, c.second-second.ensures, c.if-second-lt-EDGE_BIT.false)) (omega (arith, e, c.in_ok-add_parent.ensures.added, c.requires.empty)))

pub returns-clause-kept : goal.returns-clause-kept
returns-clause-kept g c = λ h old. rw c.add_parent.ensures.files at (c.add_list.ensures.kept h) (c.add_parent.ensures.kept h old)

pub returns-clause-value : goal.returns-clause-value
returns-clause-value g c = λ h.
    from_ok c.add_list.result (c.add_list.ensures.value h) (λ e.
    more_named (id_there (files_of c.args.layers.now)) (file_at (files_of c.args.layers.now) c.args.child.layer) (word c.args.row.now.bytes 20) (word c.args.row.now.bytes 24)
    c.add_list.new.ids.items c.args.ids.now.items (λ e. c.if-first-eq-NO_PARENT.false (c.first.ensures ∙ e)) (λ e. c.if-second-eq-NO_PARENT.false (c.second-second.ensures ∙ e))
    (omega (arith, c.second-second.ensures, c.if-second-lt-EDGE_BIT.false)) c.requires.empty
    (rw (c.add_parent.ensures.files, c.named_at-2.ensures, c.second-second.ensures, c.in_ok-add_parent.ensures.value h, c.first-2.ensures) at e))
