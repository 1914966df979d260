use Rattle.std.proofs.Common.{rules}
use Rattle.gix_graph_rows.proofs.parts.Parts.find.Goals as goal
use Rattle.gix_graph_rows.proofs.parts.Parts.find.Goals.{then-is_seldom+in_ok-place+in-Elsewhere, else-is_seldom}

pub returns-in_err-make_room-clause-kept : goal.returns-in_err-make_room-clause-kept
returns-in_err-make_room-clause-kept g c = λ h. c.make_room.ensures _ _ (c.requires.kept h)

pub returns-in_err-place-clause-kept : goal.returns-in_err-place-clause-kept
returns-in_err-place-clause-kept g c = λ h. c.told.ensures.kept _ _ (c.is_seldom.ensures _ _ (c.make_room.ensures _ _ (c.requires.kept h)))

pub returns-in-At-clause-kept : goal.returns-in-At-clause-kept
returns-in-At-clause-kept g c = λ h. c.told.ensures.kept _ _ (c.is_seldom.ensures _ _ (c.make_room.ensures _ _ (c.requires.kept h)))

pub returns-in-Absent-clause-kept : goal.returns-in-Absent-clause-kept
returns-in-Absent-clause-kept g c = λ h. c.told.ensures.kept _ _ (c.is_seldom.ensures _ _ (c.make_room.ensures _ _ (c.requires.kept h)))

pub load-requires-clause-kept : goal.load-requires-clause-kept
load-requires-clause-kept g c = λ h.
    let kept = c.is_seldom.ensures _ _ (c.make_room.ensures _ _ (c.requires.kept h)) in
    elim c.if-is_seldom.branch [
      | then-is_seldom+in_ok-place+in-Elsewhere w ↦ rw w.self-is (w.told.ensures.kept _ _ kept)
      | else-is_seldom w ↦ rw w.self-is kept
    ]

pub returns-clause-value : goal.returns-clause-value
returns-clause-value g c = λ h. c.position.ensures _ _ (search rules) (c.load.ensures h)
