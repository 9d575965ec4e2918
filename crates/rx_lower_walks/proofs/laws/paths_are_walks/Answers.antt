use Rattle.rx_lower_walks.proofs.Sites.{paths_are_walks_of}
use Rattle.rx_lower_walks.proofs.laws.paths_are_walks.Goals as goal

pub returns : goal.returns
returns c f w = paths_are_walks_of f w
