use Rattle.std.proofs.Common.{◌+◌, drop, sym, ap, ◌∙◌}
use Rattle.rx_resolve_names.specs.Scopes.{entered}
use Rattle.rx_resolve_names.proofs.scope.Scope.enter_all.Goals as goal
use Rattle.rx_resolve_names.proofs.scope.Scope.enter_all.Goals.{in-Some+in_ok-enter-in-Some, in-None}
use Rattle.rx_resolve_names.proofs.Drops.{enters_next, enters_none}

pub loop-at-preserved : goal.loop-at-preserved
loop-at-preserved c = elim c.match-entry.branch [
  | in-Some+in_ok-enter-in-Some w ↦ enters_next c.loop-at.self c.match-entry.self c.args.names.now c.loop-at.at (w.in-Some.name.now, w.in-Some.known) (sym w.in-Some.ensures) (w.self-is ∙ w.in_ok-enter-in-Some.ensures.ok) ∙ c.loop-at.invariant
  | in-None w ↦ ap (λ s. entered s (drop (c.loop-at.at + 1) c.args.names.now)) w.self-is ∙ enters_none c.loop-at.self c.args.names.now c.loop-at.at (sym w.in-None.ensures) ∙ c.loop-at.invariant
]
