use Rattle.rx_meaning_accepted.proofs.InitialPrograms.{functions_call, calls_of}
use Rattle.rx_meaning_accepted.proofs.initial_laws.typed_calls_fit.Goals as goal

pub returns : goal.returns
returns c = λ p names t few meant typed m f F is. calls_of t f F is (functions_call p names t few meant typed (c.signatures_are_well_formed.ensures p names t few meant typed)
    (c.sizes_are_sized.ensures p names typed.declared typed.sizes typed.declares typed.is_sizes) (c.all_have_types.ensures p names t typed))
