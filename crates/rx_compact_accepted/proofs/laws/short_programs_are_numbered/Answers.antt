use Rattle.rx_compact_accepted.proofs.StillNumbered.{short_numbered}
use Rattle.rx_compact_accepted.proofs.laws.short_programs_are_numbered.Goals as goal

pub returns : goal.returns
returns c = short_numbered
