-- What is copied is the front of what is left, and the rest stays left.
use Rattle.std.proofs.Common.{arith, refl}
use Rattle.rx_core.proofs.StreamsLemmas.{gone-given}
use Rattle.rx_core.proofs.bytes_source.BytesSourceSource.take.Goals as goal

pub returns-clause-gives : goal.returns-clause-gives
returns-clause-gives c =
    gone-given c.as_slice.result.now c.args.self.now.bytes _ c.copy_from_slice.new.self c.args.buf.now c.args.self.now.given c.min-n.result
    c.as_slice.ensures refl (omega (arith, c.min-n.ensures)) c.copy_from_slice.ensures.after
