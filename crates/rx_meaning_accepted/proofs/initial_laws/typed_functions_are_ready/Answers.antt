use Rattle.rx_meaning_accepted.proofs.InitialPrograms.{functions_ready}
use Rattle.rx_meaning_accepted.proofs.initial_laws.typed_functions_are_ready.Goals as goal

pub returns : goal.returns
returns c = λ p names t few meant typed P sized f a. functions_ready p names t few meant typed (c.signatures_are_well_formed.ensures p names t few meant typed)
    (c.sizes_are_sized.ensures p names typed.declared typed.sizes typed.declares typed.is_sizes) (c.all_have_types.ensures p names t typed) P sized f a
