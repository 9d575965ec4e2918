use Rattle.std.proofs.Common.{arith}
use Rattle.rx_engine_alike.specs.PlainParts.{plain-Part}
use Rattle.rx_engine_extracted.specs.Stretches.{behind_first}
use Rattle.rx_engine_extracted.proofs.StretchLemmas.{next_so}
use Rattle.rx_engine_extracted.proofs.stretches.behind_first.Goals as goal

pub loop-left-preserved : goal.loop-left-preserved
loop-left-preserved c =
    next_so (λ n. behind_first n (plain-Part c.loop-left.rest)) (λ n. behind_first n (plain-Part c.in-Some.further)) c.loop-left.left _ (omega (arith, c.loop-left-test.true)) c.in-Some.ensures
    c.loop-left.invariant
