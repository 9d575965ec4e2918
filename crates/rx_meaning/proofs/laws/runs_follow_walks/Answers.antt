use Rattle.rx_meaning.proofs.RunsFollow.{activation_walks, fully_walks}
use Rattle.rx_meaning.proofs.laws.runs_follow_walks.Goals as goal

pub returns-clause-alone : goal.returns-clause-alone
returns-clause-alone c = activation_walks

pub returns-clause-beside : goal.returns-clause-beside
returns-clause-beside c = fully_walks
