use Rattle.std.proofs.Common.{ℕ, List, drop}
use Rattle.rx_exits_plan.specs.Asked.{Asked}
use Rattle.rx_exits.specs.Living.{IsLiving}
use Rattle.rx_modes.specs.Told.{LiveBehind}
use Rattle.rx_modes.proofs.known.is_live_out.Given as goal

-- where it is live behind some exit, it is behind one that is left
abbrev pub invariant-loop-exit : goal.invariant-loop-exit
invariant-loop-exit l = (A : Asked) (params : List ℕ) → IsLiving A params l.living → LiveBehind A params l.exits l.variable
    → LiveBehind A params (drop l.exit-index l.exits) l.variable
