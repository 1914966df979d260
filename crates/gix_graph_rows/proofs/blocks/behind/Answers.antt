use Rattle.std.proofs.Common.{rules}
use Rattle.std.proofs.lemmas.List.{take_rest}
use Rattle.gix_files.proofs.Parts.{part_drop}
use Rattle.gix_graph_rows.proofs.blocks.behind.Goals as goal

pub returns-then-at-bytes : goal.returns-then-at-bytes
returns-then-at-bytes c = λ s base h. rw (take_rest c.args.bytes.now c.args.at) (part_drop s c.args.bytes.now base c.args.at (search rules) h)
