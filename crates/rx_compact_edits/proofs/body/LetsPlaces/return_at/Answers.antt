use Rattle.rx_splice_walk.proofs.Written.{nothing}
use Rattle.rx_compact_edits.proofs.body.LetsPlaces.return_at.Goals as goal

pub returns : goal.returns
returns c = nothing c.args._out.now
