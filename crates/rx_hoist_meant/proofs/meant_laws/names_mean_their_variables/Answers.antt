use Rattle.rx_hoist_meant.proofs.MeantPrograms.{means}
use Rattle.rx_hoist_meant.proofs.meant_laws.names_mean_their_variables.Goals as goal

pub returns : goal.returns
returns c = λ p names t few meant typed f a. means p names t few meant typed (c.signatures_are_well_formed.ensures p names t few meant typed)
    (c.sizes_are_sized.ensures p names typed.declared typed.sizes typed.declares typed.is_sizes) f a
