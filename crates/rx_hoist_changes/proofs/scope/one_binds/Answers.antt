use Rattle.std.proofs.Common.{sym, ◌∙◌, arith}
use Rattle.rx_hoist_changes.proofs.ScopeLemmas.{found_at, none_found}
use Rattle.rx_hoist_changes.proofs.scope.one_binds.Goals as goal

pub returns-then-binds : goal.returns-then-binds
returns-then-binds c =
    found_at (λ p. p.now) c.args.name.now c.args.patterns.now c.loop-pattern.pattern-index c.pattern-item.result c.loop-pattern.invariant c.loop-pattern-test.true c.pattern-item.is
    (sym c.binds.ensures ∙ c.if-binds.true)

pub returns : goal.returns
returns c = none_found (λ p. p.now) c.args.name.now c.args.patterns.now c.loop-pattern.pattern-index c.loop-pattern.invariant (omega arith)
