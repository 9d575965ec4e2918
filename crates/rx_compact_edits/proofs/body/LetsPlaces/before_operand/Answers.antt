use Rattle.std.proofs.Common.{append-nil, sym}
use Rattle.rx_splice_walk.proofs.Written.{nothing}
use Rattle.rx_compact_edits.proofs.body.LetsPlaces.before_operand.Goals as goal

pub returns : goal.returns
returns c = record { text = nothing c.args._out.now; whole = λ es. sym (append-nil es) }
