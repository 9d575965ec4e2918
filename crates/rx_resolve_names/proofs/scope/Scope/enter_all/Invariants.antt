use Rattle.std.proofs.Common.{◌≡◌, drop}
use Rattle.rx_resolve_names.specs.Scopes.{entered}
use Rattle.rx_resolve_names.proofs.scope.Scope.enter_all.Given as goal

abbrev pub invariant-loop-at : goal.invariant-loop-at
invariant-loop-at l = entered l.self (drop l.at l.names) ≡ entered l.fn.self l.names
