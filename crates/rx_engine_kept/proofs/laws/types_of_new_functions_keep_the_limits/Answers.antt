use Rattle.rx_engine_kept.proofs.ToldLimits.{signature_keeps}
use Rattle.rx_engine_kept.proofs.laws.types_of_new_functions_keep_the_limits.Goals as goal

pub returns : goal.returns
returns c = λ r D E k pl parts less low few. signature_keeps r D E k parts less pl low few
