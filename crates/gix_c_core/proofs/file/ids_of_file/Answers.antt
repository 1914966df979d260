use Rattle.std.proofs.Common.{◌≡◌, ◌∙◌, ap, sym, List, ℕ, take, length, arith}
use Rattle.std.proofs.lemmas.List.{take_all}
use Rattle.std.specs.Prelude.{slice_get}
use Rattle.std.specs.Option.{option_map}
use Rattle.gix_commitgraph.specs.FileCommits.{history_in}
use Rattle.gix_revwalk.specs.History.{History, is_one_of}
use Rattle.gix_c_core.proofs.Copied.{ids_in, more, no-more, all-ids}
use Rattle.gix_c_core.proofs.file.ids_of_file.Goals.{in-Some+in_ok-insert, in_default}
use Rattle.gix_c_core.proofs.file.ids_of_file.Goals as goal

pub loop-position-preserved : goal.loop-position-preserved
loop-position-preserved c =
    let h = history_in c.args.file.now in
    let at : c.id.result ≡ option_map (λ e. e.0) (slice_get h c.loop-position.position) =
    c.id.ensures ∙ ap (λ (s : List ℕ). option_map (λ e. e.0) (slice_get (history_in s) c.loop-position.position)) c.graph-graph.ensures in
    elim c.match-id.branch [
      | in-Some+in_ok-insert w ↦ λ q. rw w.ids-is (more h c.loop-position.position w.in-Some.id c.loop-position.ids w.insert.new.self (sym at ∙ w.in-Some.is) w.in_ok-insert.ensures.updates.0 c.loop-position.invariant q)
      | in_default w ↦ λ q. rw w.ids-is (no-more h c.loop-position.position c.loop-position.ids (sym at ∙ w.in_default.is) c.loop-position.invariant q)
    ]

pub returns : goal.returns
returns c = λ q.
    let h = history_in c.args.file.now in
    let end : c.len-position-end.result ≡ length h = c.len-position-end.ensures ∙ ap (λ (s : List ℕ). length (history_in s)) c.graph-graph.ensures in
    let past = c.loop-position-test.false in
    let all : take c.loop-position.position h ≡ h = take_all c.loop-position.position h (omega (arith, past, end)) in
    c.loop-position.invariant q ∙ ap (λ (l : History). is_one_of (ids_in l) q) all ∙ all-ids h q
