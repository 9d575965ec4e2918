use Rattle.std.proofs.Common.{◌≡◌, drop}
use Rattle.rx_facts_tables.specs.Setting.{is_behind}
use Rattle.rx_exits.proofs.acts.is_behind.Given as goal

abbrev pub invariant-loop-step : goal.invariant-loop-step
invariant-loop-step l = is_behind (drop l.step-index l.steps) ≡ is_behind l.steps
