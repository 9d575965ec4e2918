-- Each by its induction.
use Rattle.rx_parse_laws.proofs.SameWords.{told}
use Rattle.rx_compact_read.proofs.Halves.{type_halved, parameters_halved, result_halved}
use Rattle.rx_compact_read.proofs.laws.halves_are_derived_alike.Goals as goal

pub returns-clause-types : goal.returns-clause-types
returns-clause-types c = λ ts us y h e d. told (type_halved d us e)

pub returns-clause-parameters : goal.returns-clause-parameters
returns-clause-parameters c = λ ts us xs h e d. told (parameters_halved d us e)

pub returns-clause-results : goal.returns-clause-results
returns-clause-results c = λ ts us y h e d. told (result_halved d us e)
