use Rattle.rx_hoist_meant.proofs.Programs.{scoped}
use Rattle.rx_hoist_meant.proofs.laws.blocks_stand_in_scope.Goals as goal

pub returns : goal.returns
returns c = λ p names t few meant typed g a s f at. scoped p names t few meant typed (c.signatures_are_well_formed.ensures p names t few meant typed)
    (c.sizes_are_sized.ensures p names typed.declared typed.sizes typed.declares typed.is_sizes) g a s f at
