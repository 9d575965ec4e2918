use Rattle.rx_facts_laws.proofs.Excluding.{unset_excludes, again_excludes}
use Rattle.rx_facts_laws.proofs.laws.faults_exclude_initialised.Goals as goal

pub returns : goal.returns
returns c = record { unset = unset_excludes; again = again_excludes }
