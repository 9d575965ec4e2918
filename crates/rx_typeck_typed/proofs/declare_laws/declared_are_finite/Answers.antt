use Rattle.rx_typeck_typed.proofs.LimitLemmas.{limited_finite}
use Rattle.rx_typeck_typed.proofs.declare_laws.declared_are_finite.Goals as goal

pub returns : goal.returns
returns c p D fits = limited_finite p D fits.limited
