use Rattle.rx_hoist_naming_laws.proofs.Sitting.{each_sits, some_sits}
use Rattle.rx_hoist_naming_laws.proofs.laws.runs_sit.Goals as goal

pub returns : goal.returns
returns c = record { function = some_sits; sits = each_sits }
