use Rattle.rx_hoist_extraction.proofs.WrittenLevels.{count_of_parameters, count_of_lifetimes}
use Rattle.rx_hoist_extraction.proofs.laws.counts_are_exact.Goals as goal

pub returns-clause-parameters : goal.returns-clause-parameters
returns-clause-parameters c = count_of_parameters

pub returns-clause-lifetimes : goal.returns-clause-lifetimes
returns-clause-lifetimes c = count_of_lifetimes
