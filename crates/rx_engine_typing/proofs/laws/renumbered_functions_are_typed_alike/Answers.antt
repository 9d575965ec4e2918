use Rattle.rx_typeck_typed.specs.Demands.{demands}
use Rattle.rx_engine_blocks.specs.DemandsLike.{NoSpecial}
use Rattle.rx_engine_blocks.proofs.Renumbered.{renumbered_valid}
use Rattle.rx_engine_typing.specs.Renumbered.{no_holes}
use Rattle.rx_engine_typing.proofs.Forms.{function_like}
use Rattle.rx_engine_typing.proofs.Holes.{no_fits, no_asks}
use Rattle.rx_engine_typing.proofs.laws.renumbered_functions_are_typed_alike.Goals as goal

pub returns : goal.returns
returns c r loops D E k i f g h o A v = renumbered_valid r D E k i (demands f) (demands g) (function_like r loops no_holes NoSpecial (no_fits r loops) (no_asks r loops) h) A o v
