use Rattle.std.proofs.Common.{◌∙◌}
use Rattle.rx_cover.proofs.SetLemmas.{place_some, place_none}
use Rattle.rx_cover.proofs.sets.place.Goals as goal

pub returns-in-Some : goal.returns-in-Some
returns-in-Some c = place_some c.args.heads.now.keys c.args.head c.in-Some.place c.in-Some.ensures.index

pub returns-in-None : goal.returns-in-None
returns-in-None c = c.len.ensures.len ∙ place_none c.args.heads.now.keys c.args.head c.in-None.ensures.index
