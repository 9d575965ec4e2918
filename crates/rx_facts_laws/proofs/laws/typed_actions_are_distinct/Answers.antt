use Rattle.rx_facts_laws.proofs.Typing.{each_once}
use Rattle.rx_facts_laws.proofs.laws.typed_actions_are_distinct.Goals as goal

pub returns : goal.returns
returns c p names t typed f m = each_once c.actions_are_distinct.ensures.once _ names 0 p t.functions typed.functions f m
