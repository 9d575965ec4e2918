use Rattle.rx_lex.proofs.NumeralLaws.{numeral_one}
use Rattle.rx_lex.proofs.laws.one_number.Goals as goal

pub returns : goal.returns
returns c = λ w v u k j a b. numeral_one a b
