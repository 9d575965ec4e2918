use Rattle.std.proofs.Common.{[]}
use Rattle.rx_engine_blocks.specs.Along.{composed, none_viewed}
use Rattle.rx_engine_holes.specs.Entries.{assigned, of_text}
use Rattle.rx_engine_holes.proofs.Entering.{entries_are_had, tells_text}
use Rattle.rx_engine_holes.proofs.Calling.{statements_meet}
use Rattle.rx_engine_holes.proofs.laws.statements_that_fit_are_met.Goals as goal

pub returns : goal.returns
returns c = λ q w E A f ss made x p. statements_meet E (composed q w none_viewed A (assigned made)) f (of_text q w A) (tells_text q w A (assigned made)) x (entries_are_had q w A made p) [] tt
