-- One of the patterns binds the name exactly where one of those that are left does.
use Rattle.std.proofs.Common.{◌≡◌, map, drop}
use Rattle.rx_hoist_changes.proofs.ScopeLemmas.{some_bind}
use Rattle.rx_hoist_changes.proofs.scope.one_binds.Given as goal

abbrev pub invariant-loop-pattern : goal.invariant-loop-pattern
invariant-loop-pattern l =
    some_bind l.name (map (λ p. p.now) (drop l.pattern-index l.patterns))
    ≡ some_bind l.name (map (λ p. p.now) l.patterns)
