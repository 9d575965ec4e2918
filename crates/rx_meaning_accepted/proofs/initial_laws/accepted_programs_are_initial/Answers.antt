use Rattle.rx_meaning_accepted.proofs.InitialPrograms.{formed_of, initial_if}
use Rattle.rx_meaning_accepted.proofs.initial_laws.accepted_programs_are_initial.Goals as goal

pub returns : goal.returns
returns c = λ p t few front m. let typed = front.typed in initial_if t front.parts front.sized
    (λ g a. c.typed_functions_are_ready.ensures p front.names t few front.meant typed front.parts front.sized g a)
    (formed_of p front.names t few front.meant typed (c.signatures_are_well_formed.ensures p front.names t few front.meant typed)
    (c.sizes_are_sized.ensures p front.names typed.declared typed.sizes typed.declares typed.is_sizes) (c.all_have_types.ensures p front.names t typed) c.elaborated_trees_are_formed.ensures)
    front.initialised
