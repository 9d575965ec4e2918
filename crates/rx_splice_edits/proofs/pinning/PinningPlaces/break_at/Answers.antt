use Rattle.rx_splice_walk.proofs.Written.{nothing}
use Rattle.rx_splice_edits.proofs.pinning.PinningPlaces.break_at.Goals as goal

pub returns : goal.returns
returns c = nothing c.args._out.now
