use Rattle.rx_typeck_typed.proofs.Signing.{signed}
use Rattle.rx_typeck_typed.proofs.laws.signatures_are_well_formed.Goals as goal

pub returns : goal.returns
returns c p names t few named typed = signed p names t few named typed
