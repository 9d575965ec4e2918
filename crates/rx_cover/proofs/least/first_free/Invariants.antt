use Rattle.std.proofs.Common.{◌≡◌, ◌<◌, ℕ, true, map}
use Rattle.rx_typed.specs.Elaborated.{with_sign}
use Rattle.rx_cover.specs.Heads.{has, whole}
use Rattle.rx_cover.specs.PlainCells.{plain-Head}
use Rattle.rx_cover.proofs.least.first_free.Given as goal

abbrev pub invariant-loop-magnitude : goal.invariant-loop-magnitude
invariant-loop-magnitude l = (m : ℕ) → m < l.magnitude → has (map plain-Head l.heads.keys) (whole (with_sign l.negative m)) ≡ true
