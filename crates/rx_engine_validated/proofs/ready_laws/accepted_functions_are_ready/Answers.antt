use Rattle.rx_engine_validated.proofs.Functions.{counted, accepted_if}
use Rattle.rx_engine_validated.proofs.ready_laws.accepted_functions_are_ready.Goals as goal

pub returns : goal.returns
returns c = λ p t few front f a r h s. accepted_if p t front f a r h (c.typed_functions_stand.ensures.places p front.names t few front.meant front.typed front.parts front.sized f a)
    (c.typed_functions_stand.ensures.variables p front.names t few front.meant front.typed front.parts front.sized f a)
    (c.runs_have_names.ensures p front.names t few front.meant front.typed f a r h s)
    (counted p front.names t few front.meant front.typed (c.signatures_are_well_formed.ensures p front.names t few front.meant front.typed)
    (c.sizes_are_sized.ensures p front.names front.typed.declared front.typed.sizes front.typed.declares front.typed.is_sizes) f a)
    (c.typed_functions_stand.ensures.writes p front.names t few front.meant front.typed f a)
