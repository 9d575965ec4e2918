use Rattle.rx_engine_covered.proofs.Fitting.{end_covered}
use Rattle.rx_engine_covered.proofs.laws.ends_that_fit_are_covered.Goals as goal

pub returns : goal.returns
returns c = λ E f C B n d ss o made x h w v m. end_covered E f C m x h w v
