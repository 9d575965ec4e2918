use Rattle.rx_lex.proofs.TokenLaws.{stuck_one}
use Rattle.rx_lex.proofs.laws.one_stuck_place.Goals as goal

pub returns : goal.returns
returns c = λ bytes a b s e. stuck_one 0 a b bytes s e
