use Rattle.std.proofs.Common.{◌≡◌, Some, slice_get, length}
use Rattle.rx_core.specs.declared.types.Bound.{Bound}
use Rattle.rx_cert_rules.specs.Parts.{Within}
use Rattle.rx_cert_rules.proofs.Telling.{Below}
use Rattle.rx_cert_rules.proofs.constraining.all_within.Given as goal

abbrev pub invariant-pairs : goal.invariant-pairs
invariant-pairs l = (length l.scratch ≡ length l.fn.scratch) × Below (λ j. (b : Bound) → slice_get l.pairs j ≡ Some b → Within l.rows b.long b.short l.bound) l.k
