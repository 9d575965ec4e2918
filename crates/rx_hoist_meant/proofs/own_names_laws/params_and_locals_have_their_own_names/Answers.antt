use Rattle.rx_hoist_meant.proofs.Runs.{given_mean, given_apart}
use Rattle.rx_hoist_meant.proofs.own_names_laws.params_and_locals_have_their_own_names.Goals as goal

pub returns : goal.returns
returns c = record { meant = given_mean; apart = given_apart }
