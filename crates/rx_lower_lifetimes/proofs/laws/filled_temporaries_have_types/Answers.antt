use Rattle.std.proofs.Common.{[]}
use Rattle.rx_lower_lifetimes.specs.Lowered.{known, actions}
use Rattle.rx_lower_lifetimes.proofs.Typed.{filled_are_held}
use Rattle.rx_lower_lifetimes.proofs.laws.filled_temporaries_have_types.Goals as goal

pub returns : goal.returns
returns c F a d = filled_are_held (known F) (actions F) [] a d
