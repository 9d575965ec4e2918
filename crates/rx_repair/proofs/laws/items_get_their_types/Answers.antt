use Rattle.rx_lower.specs.Functions.{function}
use Rattle.rx_repair.proofs.Programs.{are_of_items}
use Rattle.rx_repair.proofs.laws.items_get_their_types.Goals as goal

pub returns : goal.returns
returns c = λ p names t typed f among P.
    are_of_items p names t typed f among c.numbers_stand_in_order.ensures.nodes c.sites_stand_in_order.ensures (c.filled_temporaries_have_types.ensures (function t.decls.items f)) P
