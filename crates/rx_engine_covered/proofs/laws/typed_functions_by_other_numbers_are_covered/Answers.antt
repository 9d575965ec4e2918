use Rattle.rx_engine_covered.proofs.Typed.{typed_covered}
use Rattle.rx_engine_covered.proofs.laws.typed_functions_by_other_numbers_are_covered.Goals as goal

pub returns : goal.returns
returns c = λ r loops i G H k n m s s' f f' ns ms vars ws g h a b l x. typed_covered c.demands_are_orderly.ensures r loops i G H k n m s s' f f' ns ms vars ws g h a b l x
