use Rattle.rx_lower_walks.proofs.Sites.{joined_follow, next_held}
use Rattle.rx_lower_walks.proofs.laws.neighbours_follow.Goals as goal

pub returns : goal.returns
returns c f a b = (joined_follow f a b, next_held f a b)
