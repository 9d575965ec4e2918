use Rattle.rx_meaning_typed.proofs.Shapes.{pending_shape, variable_shape}
use Rattle.rx_meaning_typed.proofs.laws.typed_values_have_shapes.Goals as goal

pub returns : goal.returns
returns c = record { held = λ L T S s K h t v a. pending_shape L T S t v K h.pending a; stored = variable_shape }
