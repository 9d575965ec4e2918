use Rattle.rx_parse_cursor.proofs.Placed.{are_placed}
use Rattle.rx_parse_cursor.proofs.laws.lexed_tokens_are_placed.Goals as goal

pub returns : goal.returns
returns c = are_placed
