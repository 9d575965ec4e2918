use Rattle.std.proofs.Common.{◌≡◌, ◌-◌, length}
use Rattle.rx_typed.specs.Naming.{known_among}
use Rattle.rx_typeck_elaborate_parts.proofs.cursor.know.Given as goal

abbrev pub invariant-loop-variable : goal.invariant-loop-variable
invariant-loop-variable l =
    (known_among l.variable (l.to - l.variable) l.variables ≡ known_among l.fn.from (l.fn.to - l.fn.from) l.fn.variables)
    × (length l.variables ≡ length l.fn.variables)
