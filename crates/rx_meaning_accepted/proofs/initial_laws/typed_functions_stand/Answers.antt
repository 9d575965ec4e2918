use Rattle.rx_meaning_accepted.proofs.InitialPrograms.{functions_stand, unmarked_here, lazies_here, writes_here}
use Rattle.rx_meaning_accepted.proofs.initial_laws.typed_functions_stand.Goals as goal

pub returns-clause-places : goal.returns-clause-places
returns-clause-places c = λ p names t few meant typed P sized f a. (functions_stand p names t few meant typed (c.signatures_are_well_formed.ensures p names t few meant typed)
    (c.sizes_are_sized.ensures p names typed.declared typed.sizes typed.declares typed.is_sizes) (c.all_have_types.ensures p names t typed) P sized f a).places

pub returns-clause-variables : goal.returns-clause-variables
returns-clause-variables c = λ p names t few meant typed P sized f a. (functions_stand p names t few meant typed (c.signatures_are_well_formed.ensures p names t few meant typed)
    (c.sizes_are_sized.ensures p names typed.declared typed.sizes typed.declares typed.is_sizes) (c.all_have_types.ensures p names t typed) P sized f a).variables

pub returns-clause-unmarked : goal.returns-clause-unmarked
returns-clause-unmarked c = λ p names t few meant typed f a. unmarked_here p names t few meant typed (c.signatures_are_well_formed.ensures p names t few meant typed)
    (c.sizes_are_sized.ensures p names typed.declared typed.sizes typed.declares typed.is_sizes) (c.all_have_types.ensures p names t typed) f a

pub returns-clause-lazies : goal.returns-clause-lazies
returns-clause-lazies c = λ p names t few meant typed f a. lazies_here p names t few meant typed (c.signatures_are_well_formed.ensures p names t few meant typed)
    (c.sizes_are_sized.ensures p names typed.declared typed.sizes typed.declares typed.is_sizes) (c.all_have_types.ensures p names t typed) f a

pub returns-clause-writes : goal.returns-clause-writes
returns-clause-writes c = λ p names t few meant typed f a. writes_here p names t few meant typed (c.signatures_are_well_formed.ensures p names t few meant typed)
    (c.sizes_are_sized.ensures p names typed.declared typed.sizes typed.declares typed.is_sizes) (c.all_have_types.ensures p names t typed) f a
