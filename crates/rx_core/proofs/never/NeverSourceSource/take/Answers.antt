-- What is copied is the front of what is left, and the rest stays left.
use Rattle.std.proofs.Common.{arith}
use Rattle.rx_core.proofs.StreamsLemmas.{gone-given}
use Rattle.rx_core.proofs.never.NeverSourceSource.take.Goals as goal

pub returns-clause-gives : goal.returns-clause-gives
returns-clause-gives c =
    gone-given c.as_slice.result.now c.self.inside.bytes c.args.self.now c.copy_from_slice.new.self c.args.buf.now c.self.inside.given c.min-n.result
    c.as_slice.ensures c.self.view_is (omega (arith, c.min-n.ensures)) c.copy_from_slice.ensures.after
