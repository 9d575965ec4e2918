-- As many items are left as turns.
use Rattle.std.proofs.Common.{◌≡◌, ◌-◌}
use Rattle.std.specs.Vec.{vec_len}
use Rattle.rx_core.proofs.held.ListLetGo.let_go.Given as goal

abbrev pub invariant-loop-turn : goal.invariant-loop-turn
invariant-loop-turn g l = vec_len l.items ≡ l._turn-end - l._turn
