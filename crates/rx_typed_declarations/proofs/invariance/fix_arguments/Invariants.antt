use Rattle.std.proofs.Common.{◌≡◌, drop}
use Rattle.rx_typed_declarations.specs.Variance.{fix_arguments}
use Rattle.rx_typed_declarations.proofs.invariance.fix_arguments.Given as goal

abbrev pub invariant-loop-i : goal.invariant-loop-i
invariant-loop-i l = fix_arguments l.under l.of l.i l.polarities.items (drop l.i l.lifetimes)
    ≡ fix_arguments l.fn.under l.fn.of 0 l.fn.polarities.items l.fn.lifetimes
