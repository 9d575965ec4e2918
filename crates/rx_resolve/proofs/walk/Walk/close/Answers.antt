use Rattle.std.proofs.Common.{ap}
use Rattle.rx_resolve.specs.Walks.{with_around}
use Rattle.rx_resolve.proofs.walk.Walk.close.Goals as goal
use Rattle.rx_resolve.proofs.WalkLemmas.{above_popped}

pub returns : goal.returns
returns c = ap (λ a. with_around a c.args.self.now) (above_popped c.args.self.now.around c.pop.new.self c.pop.result c.pop.ensures)
