use Rattle.gix_graph_rows.proofs.RowAlone.{row-says}
use Rattle.gix_graph_rows.proofs.laws.rows_say_the_same.Goals as goal

pub returns : goal.returns
returns c = row-says
