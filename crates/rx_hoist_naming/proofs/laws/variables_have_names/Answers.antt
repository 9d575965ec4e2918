use Rattle.rx_hoist_naming.proofs.Programs as programs
use Rattle.rx_hoist_naming.proofs.laws.variables_have_names.Goals as goal

pub returns : goal.returns
returns c = λ p names t few meant typed f a. programs.variables_have_names p names t few meant typed (c.signatures_are_well_formed.ensures p names t few meant typed)
    (c.sizes_are_sized.ensures p names typed.declared typed.sizes typed.declares typed.is_sizes) f a
