use Rattle.std.proofs.Common.{[]}
use Rattle.rx_engine_names.specs.Moves.{rounds}
use Rattle.rx_engine_names.specs.NewPlan.{run_claims}
use Rattle.rx_engine_planned.proofs.PinnedClaims.{run_told}
use Rattle.rx_engine_planned.proofs.laws.runs_keep_their_claims.Goals as goal

pub returns : goal.returns
returns c = λ p pins f r b d k v h t. run_told p pins f r b d k (run_claims v) (λ y. tt) (λ own ls b. tt) [] (rounds v) (h, t)
