use Rattle.std.proofs.Common.{ap}
use Rattle.rx_resolve.specs.Walks.{with_path}
use Rattle.rx_resolve.proofs.walk.Walk.up.Goals as goal
use Rattle.rx_resolve.proofs.WalkLemmas.{above_popped}

pub returns : goal.returns
returns c = ap (λ p. with_path p c.args.self.now) (above_popped c.args.self.now.path c.pop.new.self c.pop.result c.pop.ensures)
