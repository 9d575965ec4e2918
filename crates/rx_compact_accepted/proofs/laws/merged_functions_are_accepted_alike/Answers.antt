use Rattle.rx_compact_accepted.proofs.MergedAccepted.{accepted_alike}
use Rattle.rx_compact_accepted.proofs.laws.merged_functions_are_accepted_alike.Goals as goal

pub returns : goal.returns
returns c = λ f C K g M loans. accepted_alike f C K g M loans
