use Rattle.std.proofs.Common.{refl, sym, ◌∙◌}
use Rattle.gix_revwalk.specs.Held.{entry_of}
use Rattle.gix_commitgraph.specs.NewerCommits.{in_file}
use Rattle.gix_commitgraph.proofs.Grown.{is-none, in-both, new-of-both, put-of-both, why-of-both}
use Rattle.gix_commitgraph.proofs.commit_graph.joined.JoinedMemorySourceInsert.insert.Goals as goal

pub returns-then-is_in_file-clause-cause : goal.returns-then-is_in_file-clause-cause
returns-then-is_in_file-clause-cause g c = (refl, in-both (in_file c.args.self.now.file) c.args.self.now.newer c.args.id (sym c.is_in_file.ensures ∙ c.if-is_in_file.true))

pub returns-clause-new : goal.returns-clause-new
returns-clause-new g c = new-of-both (in_file c.args.self.now.file) c.args.self.now.newer c.args.id (is-none _ (sym c.is_in_file.ensures ∙ c.if-is_in_file.false)) c.insert.result c.insert.ensures.new

pub returns-clause-put : goal.returns-clause-put
returns-clause-put g c = put-of-both (in_file c.args.self.now.file) c.args.self.now.newer c.insert.new.self c.args.id (entry_of c.args.commit) (is-none _ (sym c.is_in_file.ensures ∙ c.if-is_in_file.false)) c.insert.result c.insert.ensures.put

pub returns-clause-cause : goal.returns-clause-cause
returns-clause-cause g c = why-of-both (in_file c.args.self.now.file) c.args.self.now.newer c.args.id c.args.commit (is-none _ (sym c.is_in_file.ensures ∙ c.if-is_in_file.false)) c.insert.result c.insert.ensures.cause
