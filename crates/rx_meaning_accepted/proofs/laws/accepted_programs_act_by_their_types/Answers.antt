use Rattle.rx_meaning_accepted.proofs.laws.accepted_programs_act_by_their_types.Goals as goal

pub returns : goal.returns
returns c = λ p t few front m. c.typed_functions_act_by_their_types.ensures p front.names t few front.meant front.typed m
