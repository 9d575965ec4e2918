use Rattle.rx_facts.specs.Functions.{sites_of}
use Rattle.rx_check.proofs.front_end.FrontEnd.is_live.Goals as goal

pub returns : goal.returns
returns c f is within = c.is_live.ensures (sites_of f) (c.live.ensures.live f is) within
