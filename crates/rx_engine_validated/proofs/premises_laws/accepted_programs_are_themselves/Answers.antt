use Rattle.rx_machine.specs.Functions.{program_of}
use Rattle.rx_engine_validated.proofs.Itself.{items_are_like_themselves}
use Rattle.rx_engine_validated.proofs.premises_laws.accepted_programs_are_themselves.Goals as goal

pub returns : goal.returns
returns c = λ p t few front main.
    c.alike_items_are_the_same.ensures.itself (program_of t main) (λ j. items_are_like_themselves c.demands_are_orderly.ensures p front.names t few front.meant front.typed main j)
