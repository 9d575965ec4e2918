use Rattle.std.proofs.Common.{subst}
use Rattle.rx_cover.specs.Heads.{IsNear}
use Rattle.rx_cover.specs.PlainCells.{plain-Head}
use Rattle.rx_cover.proofs.missing.with_head.Goals as goal

pub below_zero-requires : goal.below_zero-requires
below_zero-requires c = record { near = subst (λ h. IsNear (plain-Head h)) c.in-Negative.is c.requires.near }
