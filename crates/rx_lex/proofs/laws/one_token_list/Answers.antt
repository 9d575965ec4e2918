use Rattle.rx_lex.proofs.TokenLaws.{lexes_one}
use Rattle.rx_lex.proofs.laws.one_token_list.Goals as goal

pub returns : goal.returns
returns c = lexes_one
