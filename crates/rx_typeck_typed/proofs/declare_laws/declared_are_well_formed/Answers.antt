use Rattle.rx_typeck_typed.proofs.NamedLemmas.{well_formed}
use Rattle.rx_typeck_typed.proofs.declare_laws.declared_are_well_formed.Goals as goal

pub returns : goal.returns
returns c p names items few named declares = well_formed p names items few named declares
