use Rattle.std.proofs.Common.{sym, ◌∙◌}
use Rattle.rx_engine_blocks.proofs.Fixing.{parameter_is}
use Rattle.rx_engine_blocks.proofs.laws.parameters_are_fixed.Goals as goal

pub returns : goal.returns
returns c = λ D A B x ds es h k. parameter_is D A x ds h ∙ sym (parameter_is D B x es k)
