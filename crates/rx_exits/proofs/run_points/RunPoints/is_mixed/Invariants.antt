use Rattle.std.proofs.Common.{ℕ, ◌≤◌, ◌<◌}
use Rattle.rx_exits.specs.Points.{MixedPart}
use Rattle.rx_exits.proofs.run_points.RunPoints.is_mixed.Given as goal

abbrev pub invariant-loop-part : goal.invariant-loop-part
invariant-loop-part l = (n : ℕ) → l.initial.part ≤ n → n < l.part → MixedPart l.self n → ⊥
