-- What numbers of the code stand for, and what was computed of them.
use Rattle.std.specs.Prelude.{ℤ}
use Rattle.rx_typed.specs.Elaborated.{with_sign}
use Rattle.rx_meaning.specs.Values.{Value, number, truth}
use Rattle.rx_meaning.specs.Operators as operators
use Rattle.rx_meaning.specs.Operators.{Computed}
use Rattle.rx_machine_values.specs.declared.number.Number.{Number}
use Rattle.rx_machine_values.specs.declared.number.Calculated.{Calculated}
use Rattle.rx_machine_values.specs.declared.number.Calculated.TheVariants as calculated

-- the integer
abbrev pub whole_of : Number → ℤ
whole_of n = with_sign n.negative n.magnitude

abbrev pub plain-Number : Number → Value
plain-Number n = number n.kind (whole_of n)

abbrev pub plain-Calculated : Calculated → Computed
plain-Calculated (calculated.Number n) = operators.gives (plain-Number n)
plain-Calculated (calculated.Truth b) = operators.gives (truth b)
plain-Calculated (calculated.Traps t) = operators.traps t
plain-Calculated calculated.Senseless = operators.senseless
