use Rattle.std.proofs.Common.{◌≡◌, ◌+◌, ◌-◌, ◌++◌}
use Rattle.rx_typed.specs.Renaming.{from}
use Rattle.rx_typed.proofs.renaming.fresh.Given as goal

abbrev pub invariant-loop-turn : goal.invariant-loop-turn
invariant-loop-turn l = l.list ++ from (l.next + l.turn) (l.count - l.turn) ≡ from l.next l.count
