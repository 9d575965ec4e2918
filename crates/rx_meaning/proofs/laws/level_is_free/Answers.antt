use Rattle.rx_meaning.specs.Acting.{plainly}
use Rattle.rx_meaning.proofs.Blind.{plainly_blind}
use Rattle.rx_meaning.proofs.MoreTurns.{level_is_free}
use Rattle.rx_meaning.proofs.laws.level_is_free.Goals as goal

pub returns : goal.returns
returns c = level_is_free plainly plainly_blind
