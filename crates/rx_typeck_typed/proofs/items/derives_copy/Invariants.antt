use Rattle.std.proofs.Common.{◌≡◌, drop}
use Rattle.rx_typeck_typed.specs.Items.{derives_copy}
use Rattle.rx_typeck_typed.proofs.items.derives_copy.Given as goal

abbrev pub invariant-loop-derive : goal.invariant-loop-derive
invariant-loop-derive l = derives_copy (drop l.derive-index l.derives) ≡ derives_copy l.fn.derives
