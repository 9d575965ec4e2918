-- Each kind of part by its induction.
use Rattle.rx_parse_laws.proofs.SameWords.{told}
use Rattle.rx_parse_laws.proofs.TypesAgain.{type_again, types_again, reference_again, argument_again}
use Rattle.rx_parse_laws.proofs.laws.types_speak_of_words.Goals as goal

pub returns-clause-types : goal.returns-clause-types
returns-clause-types c = λ h ts us x e d. told (type_again d us e)

pub returns-clause-lists : goal.returns-clause-lists
returns-clause-lists c = λ h ts us x e d. told (types_again d us e)

pub returns-clause-references : goal.returns-clause-references
returns-clause-references c = λ ts us x e d. told (reference_again d us e)

pub returns-clause-arguments : goal.returns-clause-arguments
returns-clause-arguments c = λ h ts us x e d. told (argument_again d us e)
