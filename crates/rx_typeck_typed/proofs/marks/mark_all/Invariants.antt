use Rattle.std.proofs.Common.{◌≡◌, drop}
use Rattle.rx_typeck_typed.specs.Marks.{marked}
use Rattle.rx_typeck_typed.proofs.marks.mark_all.Given as goal

abbrev pub invariant-loop-lifetime : goal.invariant-loop-lifetime
invariant-loop-lifetime l = marked l.marks.items (drop l.lifetime-index l.lifetimes)
    ≡ marked l.fn.marks.items l.fn.lifetimes
