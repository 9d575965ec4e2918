use Rattle.rx_engine_planned.proofs.RunLifetimes.{run_lifetimes}
use Rattle.rx_engine_planned.proofs.laws.runs_name_lifetimes_of_the_text.Goals as goal

pub returns : goal.returns
returns c = λ bytes A x r s f e pins. run_lifetimes bytes A.tokens A.program x r s f e pins
