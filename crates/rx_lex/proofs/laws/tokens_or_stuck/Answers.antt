use Rattle.rx_lex.proofs.Told.{told}
use Rattle.rx_lex.proofs.TokenLaws.{tokens_or_stuck}
use Rattle.rx_lex.proofs.laws.tokens_or_stuck.Goals as goal

pub returns-clause-one : goal.returns-clause-one
returns-clause-one c = told

pub returns-clause-not_both : goal.returns-clause-not_both
returns-clause-not_both c = λ bytes ts at l s. tokens_or_stuck 0 at bytes ts l.tokens s
