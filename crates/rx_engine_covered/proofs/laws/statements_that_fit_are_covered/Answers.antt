use Rattle.rx_engine_covered.proofs.Fitting.{fitting_covered}
use Rattle.rx_engine_covered.proofs.laws.statements_that_fit_are_covered.Goals as goal

pub returns : goal.returns
returns c = λ E f C B ss made x h w. fitting_covered E f C x h w
