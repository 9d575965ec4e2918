-- The plain value of a number or truth value of the code.
use Rattle.rx_meaning.specs.Values.{Value, truth}
use Rattle.rx_machine_values.specs.PlainNumber.{plain-Number}
use Rattle.rx_machine_direct.specs.declared.scalars.Scalar.{Scalar}
use Rattle.rx_machine_direct.specs.declared.scalars.Scalar.TheVariants as scalar

abbrev pub plain-Scalar : Scalar → Value
plain-Scalar (scalar.Number n) = plain-Number n
plain-Scalar (scalar.Truth b) = truth b
