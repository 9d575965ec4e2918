use Rattle.std.proofs.Common.{◌≡◌, replicate}
use Rattle.rx_typed.specs.declared.declarations.Polarity.TheVariants.{Co}
use Rattle.rx_typed_declarations.proofs.invariance.none_marked.Given as goal

abbrev pub invariant-loop-lifetime : goal.invariant-loop-lifetime
invariant-loop-lifetime l = l.polarities.items ≡ replicate l._lifetime Co
