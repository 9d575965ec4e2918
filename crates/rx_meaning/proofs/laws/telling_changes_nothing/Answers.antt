use Rattle.rx_meaning.proofs.Told.{telling_alone, fully_says, fully_acts, runs_say}
use Rattle.rx_meaning.proofs.laws.telling_changes_nothing.Goals as goal

pub returns-clause-alone : goal.returns-clause-alone
returns-clause-alone c = telling_alone

pub returns-clause-beside : goal.returns-clause-beside
returns-clause-beside c = fully_says

pub returns-clause-actions : goal.returns-clause-actions
returns-clause-actions c = fully_acts

pub returns-clause-runs : goal.returns-clause-runs
returns-clause-runs c = runs_say
