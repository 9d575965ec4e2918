use Rattle.std.proofs.Common.{◌≡◌, drop}
use Rattle.rx_typeck_typed.specs.Items.{all_are}
use Rattle.rx_typeck_typed.proofs.functions.all_are.Given as goal

abbrev pub invariant-loop-other : goal.invariant-loop-other
invariant-loop-other l = all_are l.number (drop l.other-index l.numbers) ≡ all_are l.fn.number l.fn.numbers
