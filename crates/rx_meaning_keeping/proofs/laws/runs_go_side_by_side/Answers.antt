use Rattle.rx_meaning_keeping.proofs.Beside.{runs_go_side_by_side}
use Rattle.rx_meaning_keeping.proofs.laws.runs_go_side_by_side.Goals as goal

pub returns : goal.returns
returns c = λ A B P n f given s s' e. runs_go_side_by_side A B given s s' e P n f
