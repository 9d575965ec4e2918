use Rattle.std.proofs.Common.{[]}
use Rattle.rx_engine_blocks.specs.Along.{composed, none_viewed}
use Rattle.rx_engine_holes.specs.Entries.{assigned, of_text}
use Rattle.rx_engine_holes.proofs.Entering.{entries_are_had, tells_text}
use Rattle.rx_engine_holes.proofs.Calling.{end_meets}
use Rattle.rx_engine_holes.proofs.laws.ends_that_fit_are_met.Goals as goal

pub returns : goal.returns
returns c = λ q w E A f n d ss o made x p. end_meets E (composed q w none_viewed A (assigned made)) (of_text q w A) (tells_text q w A (assigned made)) f n d x (entries_are_had q w A made p) [] tt
