use Rattle.rx_typeck_typed.proofs.NamedLemmas.{few_variants}
use Rattle.rx_typeck_typed.proofs.declare_laws.declared_variants_are_few.Goals as goal

pub returns : goal.returns
returns c p names items few declares i = few_variants p names items few declares i
