use Rattle.std.proofs.Common.{[], Some}
use Rattle.rx_typed.specs.Named.{bind}
use Rattle.rx_typeck_typed.specs.Demands.{declared, of_parameters}
use Rattle.rx_engine_blocks.proofs.Meets.{first}
use Rattle.rx_engine_blocks.proofs.Fixing.{parameters_are, declared_is}
use Rattle.rx_engine_blocks.proofs.laws.what_is_written_is_fixed.Goals as goal

pub returns : goal.returns
returns c = λ D C. (
  λ xs ds h. parameters_are D C xs [] (first D C (of_parameters xs []) ds h).0,
  λ k x m t ds es h. declared_is D C k x m t ds (first D C (declared (bind k x m) (Some t) ds) es h).0,
)
