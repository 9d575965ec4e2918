use Rattle.rx_engine_names.proofs.KeptItems.{keeps_itself}
use Rattle.rx_engine_names.proofs.PinnedFunctions.{pinned_function_alike}
use Rattle.rx_engine_names.proofs.laws.pinned_functions_resolve.Goals as goal

pub returns : goal.returns
returns c = λ p ts whole place pins h n s f t e. pinned_function_alike (λ k. k) p p (keeps_itself p) ts whole place pins h n n s f t e
