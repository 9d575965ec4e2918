use Rattle.rx_typeck_typed.proofs.Same.{typed_sized}
use Rattle.rx_typeck_typed.proofs.laws.typed_sizes_are_sized.Goals as goal

pub returns : goal.returns
returns c p names t sizes typed is = typed_sized c.sizes_are_sized.ensures p names t sizes typed is
