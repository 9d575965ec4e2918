use Rattle.rx_typed_declarations.proofs.SizeLaws.{sizes_exist, one_size}
use Rattle.rx_typed_declarations.proofs.laws.one_size_each.Goals as goal

pub returns-clause-some : goal.returns-clause-some
returns-clause-some c D apart = sizes_exist D apart

pub returns-clause-one : goal.returns-clause-one
returns-clause-one c D P Q apart p q i = one_size D P Q apart p q i
