use Rattle.std.proofs.Common.{sym, ◌∙◌}
use Rattle.gix_range.specs.Lines.{queued}
use Rattle.gix_range.proofs.Lines.{extends_joined, extends_new}
use Rattle.gix_range.proofs.below.Lines.extend.Goals as goal

pub returns-then-joined : goal.returns-then-joined
returns-then-joined g c = extends_joined (g.S.Find.history c.args.graph.now.source) c.args.self.now.met c.push.new.self (queued c.args.self.now.ends) c.args.id (sym c.contains.ensures ∙ c.if-contains.false) c.in_ok-push.ensures.pushed (c.joins-joined.ensures c.if-joined.true)

pub returns-in-Ok : goal.returns-in-Ok
returns-in-Ok g c = extends_new (g.S.Find.history c.args.graph.now.source) c.args.self.now.met c.push.new.self c.args.self.now.ends c.insert.new.self c.key_of.result c.args.id (sym c.contains.ensures ∙ c.if-contains.false) c.in_ok-push.ensures.pushed c.in-Ok.ensures.ok
