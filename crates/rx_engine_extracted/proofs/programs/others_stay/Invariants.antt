-- Those that are passed stay.
use Rattle.std.proofs.Common.{◌≡◌}
use Rattle.rx_engine_extracted.specs.PlainTold.{plain-Told}
use Rattle.rx_engine_extracted.specs.PlainPrograms.{others_from}
use Rattle.rx_engine_extracted.proofs.programs.others_stay.Given as goal

abbrev pub invariant-loop-number : goal.invariant-loop-number
invariant-loop-number l = others_from (plain-Told l.told) l.item l.answer l.text l.number ≡ others_from (plain-Told l.told) l.item l.answer l.text 0
