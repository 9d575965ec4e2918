-- What the code is asked of, and what its answers say. (Rust Reference, "Never type", "Variables"; REM, OOPSLA 2023.)
use Rattle.std.specs.Prelude.{◌≡◌}
use Rattle.rx_exits_plan.specs.declared.plan.Run.{Run}
use Rattle.rx_exits_plan.specs.PlainPlan.{plain-Run}
use Rattle.rx_exits_plan.specs.Asked.{Asked}
use Rattle.rx_exits_plan.specs.Unreachable as plan
use Rattle.rx_exits_plan.specs.Unreachable.{Unreachable, Endless}
use Rattle.rx_exits.specs.Points.{IsPoints}
use Rattle.rx_exits.specs.declared.run_points.RunPoints.{RunPoints}
use Rattle.rx_exits_plan.specs.declared.parts.Home.{Home}
use Rattle.rx_exits_plan.specs.PlainSyntax.{plain-Home}
use Rattle.rx_exits.specs.declared.reaching.At.{At}
use Rattle.rx_exits.specs.declared.reaching.ReachFault.{ReachFault}

-- a run, its block, and what is known where walks come to its points
pub record IsAskedOf (A : Asked) (r : Run) (h : Home) (p : RunPoints) : Type 0 where
  pub run : A.run ≡ plain-Run r
  pub home : A.home ≡ plain-Home h
  pub points : IsPoints A p

-- ---- whether it is reached, and left

abbrev pub plain-At : At → plan.At
plain-At At.First = plan.first
plain-At At.Last = plan.last
plain-At (At.Jump n) = plan.jump n

abbrev pub IsReached : Asked → Type 0
IsReached A = (at : plan.At) → ¬ (Unreachable A at)

abbrev pub Hinders : Asked → ReachFault → Type 0
Hinders A (ReachFault.Unreachable at) = Unreachable A (plain-At at)
Hinders A ReachFault.Endless = IsReached A × Endless A
Hinders A ReachFault.OutOfMemory = Unit {0}
