use Rattle.gix_config.specs.Names.{name_of}
use Rattle.gix_config.specs.Values.{shown}
use Rattle.gix_config.proofs.Listed.{pushed}
use Rattle.gix_config.proofs.values.add_value.Goals as goal

pub returns-in_ok-push : goal.returns-in_ok-push
returns-in_ok-push g c =
    pushed c.args.values.now.items c.push.new.self.items c.value_of.result (name_of c.args.section.now (shown c.args.subsection) c.args.key.now) c.args.entry.now c.is_name.result
    c.in_ok-push.ensures.items c.value_of.ensures (rw c.deref.ensures.value at c.is_name.ensures) c.if-is_name.true
