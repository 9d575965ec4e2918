-- Those that are passed are others.
use Rattle.std.proofs.Common.{◌≡◌, drop}
use Rattle.rx_exits_plan.specs.Marked.{is_among}
use Rattle.rx_engine_alike.specs.Variables.{is_in}
use Rattle.rx_engine_alike.proofs.variables.is_in.Given as goal

abbrev pub invariant-loop-other : goal.invariant-loop-other
invariant-loop-other l =
    (is_in l.number (drop l.other-index l.numbers) ≡ is_in l.number l.numbers) × (is_among l.number (drop l.other-index l.numbers) ≡ is_among l.number l.numbers)
