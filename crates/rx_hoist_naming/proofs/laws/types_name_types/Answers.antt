use Rattle.rx_hoist_naming.proofs.Programs as programs
use Rattle.rx_hoist_naming.proofs.laws.types_name_types.Goals as goal

pub returns-clause-tables : goal.returns-clause-tables
returns-clause-tables c = λ p names t few meant typed f a x. programs.types_are_named p names t few meant typed (c.signatures_are_well_formed.ensures p names t few meant typed)
    (c.sizes_are_sized.ensures p names typed.declared typed.sizes typed.declares typed.is_sizes) f a x

pub returns-clause-results : goal.returns-clause-results
returns-clause-results c = λ p names t few meant typed n u e. programs.result_names p names t few meant typed (c.signatures_are_well_formed.ensures p names t few meant typed)
    (c.sizes_are_sized.ensures p names typed.declared typed.sizes typed.declares typed.is_sizes) n u e
