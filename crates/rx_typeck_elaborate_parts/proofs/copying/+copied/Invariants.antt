use Rattle.std.proofs.Common.{◌≡◌, ◌++◌, drop}
use Rattle.rx_typeck_elaborate_parts.proofs.copying.+copied.Given as goal

abbrev pub invariant-all_copied-loop-part : goal.invariant-all_copied-loop-part
invariant-all_copied-loop-part l = l.all ++ drop l.part-index l.parts ≡ l.fn.parts
