use Rattle.rx_typeck_typed.proofs.AlikeLemmas as alike
use Rattle.rx_typeck_typed.proofs.typed_laws.one_typed_program.Goals as goal

pub returns : goal.returns
returns c p names t u a b = alike.one_typed c.declared_are_finite.ensures c.one_size_each.ensures.some p names t u a b
