-- None so far hands it out in part.
use Rattle.std.proofs.Common.{take, map}
use Rattle.rx_exits_plan.specs.declared.plan.ExitOuts.{ExitOuts}
use Rattle.rx_exits_plan.specs.Asked.{Asked}
use Rattle.rx_exits.specs.Points.{IsPoints}
use Rattle.rx_exits.specs.Telling.{NoneOf, OutAt}
use Rattle.rx_exits.proofs.refusing.is_out_in_part.Given as goal

abbrev pub invariant-loop-each : goal.invariant-loop-each
invariant-loop-each l = (A : Asked) → IsPoints A l.points → NoneOf (λ (e : ExitOuts). OutAt A e l.variable) (map (λ (e : ExitOuts). e) (take l.each-index l.exits))
