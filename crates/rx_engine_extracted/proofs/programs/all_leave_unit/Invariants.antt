-- Those that are passed do.
use Rattle.std.proofs.Common.{◌≡◌, drop}
use Rattle.rx_engine_alike.specs.Units.{all_are_unit}
use Rattle.rx_engine_extracted.specs.PlainPrograms.{plain-Functions}
use Rattle.rx_engine_extracted.proofs.programs.all_leave_unit.Given as goal

abbrev pub invariant-loop-number : goal.invariant-loop-number
invariant-loop-number l = all_are_unit (plain-Functions l.functions) l.units (drop l.number-index l.numbers) ≡ all_are_unit (plain-Functions l.functions) l.units l.numbers
