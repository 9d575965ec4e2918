use Rattle.std.proofs.Common.{◌≡◌, ◌≤◌, ◌-◌, max, drop}
use Rattle.rx_resolve_names.proofs.scope.Scope.leave.Given as goal

abbrev pub invariant-loop-turn : goal.invariant-loop-turn
invariant-loop-turn l = (l.self ≡ drop (l._turn - l.len) l.fn.self) × (l._turn ≤ max l.len l._turn-end)
