use Rattle.gix_describe.proofs.Queued.{both_in}
use Rattle.gix_describe.proofs.describe.queue.put_both.Goals as goal

pub returns : goal.returns
returns g c = both_in c.args.first c.args.second c.args.places.now c.put.new.places c.put-2.new.places c.in_ok-put.ensures c.in_ok-put-2.ensures
