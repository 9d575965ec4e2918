use Rattle.rx_typeck_typed.proofs.Exact.{exact}
use Rattle.rx_typeck_typed.proofs.laws.sizes_are_sized.Goals as goal

pub returns : goal.returns
returns c p ns ds sizes declares is_sizes = exact c.declared_are_finite.ensures c.one_size_each.ensures.some p ns ds sizes declares is_sizes
