-- None so far is refused.
use Rattle.std.proofs.Common.{take}
use Rattle.rx_exits_plan.specs.Asked.{Asked}
use Rattle.rx_exits.specs.Telling.{IsOf, NoneRefused}
use Rattle.rx_exits.proofs.refusing.first_refused.Given as goal

abbrev pub invariant-loop-variable : goal.invariant-loop-variable
invariant-loop-variable l = (A : Asked) → IsOf A l.refusal → NoneRefused A l.refusal (take l.variable-index l.all)
