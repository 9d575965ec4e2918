-- Each kind of part by its induction.
use Rattle.rx_parse_laws.proofs.SameWords.{told}
use Rattle.rx_parse_laws.proofs.PatternsAgain.{pattern_again, patterns_again, field_again, fields_again}
use Rattle.rx_parse_laws.proofs.laws.patterns_speak_of_words.Goals as goal

pub returns-clause-patterns : goal.returns-clause-patterns
returns-clause-patterns c = λ h ts us x e d. told (pattern_again d us e)

pub returns-clause-lists : goal.returns-clause-lists
returns-clause-lists c = λ h ts us x e d. told (patterns_again d us e)

pub returns-clause-field : goal.returns-clause-field
returns-clause-field c = λ h ts us x e d. told (field_again d us e)

pub returns-clause-fields : goal.returns-clause-fields
returns-clause-fields c = λ h ts us x e d. told (fields_again d us e)
