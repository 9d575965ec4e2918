-- Each kind of part by its induction.
use Rattle.rx_parse_laws.proofs.SameWords.{told}
use Rattle.rx_parse_laws.proofs.ExpressionsAgain.{expression_again, operand_again, unary_again, postfix_again, primary_again, arguments_again, field_again, fields_again}
use Rattle.rx_parse_laws.proofs.laws.expressions_speak_of_words.Goals as goal

pub returns-clause-expressions : goal.returns-clause-expressions
returns-clause-expressions c = λ h ts us x e d. told (expression_again d us e)

pub returns-clause-operands : goal.returns-clause-operands
returns-clause-operands c = λ f j h ts us x e d. told (operand_again d us e)

pub returns-clause-unary : goal.returns-clause-unary
returns-clause-unary c = λ f h ts us x e d. told (unary_again d us e)

pub returns-clause-postfix : goal.returns-clause-postfix
returns-clause-postfix c = λ f h ts us x e d. told (postfix_again d us e)

pub returns-clause-primary : goal.returns-clause-primary
returns-clause-primary c = λ f h ts us x e d. told (primary_again d us e)

pub returns-clause-arguments : goal.returns-clause-arguments
returns-clause-arguments c = λ h ts us x e d. told (arguments_again d us e)

pub returns-clause-field : goal.returns-clause-field
returns-clause-field c = λ h ts us x e d. told (field_again d us e)

pub returns-clause-fields : goal.returns-clause-fields
returns-clause-fields c = λ h ts us x e d. told (fields_again d us e)
