use Rattle.rx_meaning.proofs.MoreTurns.{more_turns}
use Rattle.rx_meaning.proofs.laws.more_turns_go_on.Goals as goal

pub returns : goal.returns
returns c = more_turns
