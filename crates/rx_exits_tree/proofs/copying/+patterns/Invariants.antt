-- The parts so far are copied.
use Rattle.std.proofs.Common.{◌≡◌, take}
use Rattle.rx_exits_tree.proofs.copying.+patterns.Given as goal

abbrev pub invariant-parts_copied-loop-part : goal.invariant-parts_copied-loop-part
invariant-parts_copied-loop-part l = l.all ≡ take l.part-index l.parts
