use Rattle.std.proofs.Common.{refl}
use Rattle.rx_splice_edits.proofs.run_end.as_it_is.Goals as goal

pub returns : goal.returns
returns c = (tt, tt, refl)
