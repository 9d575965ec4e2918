-- The forms that the match passes over.
use Rattle.rx_print_places.proofs.Passed.{like_else}
use Rattle.rx_print_places.proofs.places.is_like.Goals as goal

pub returns-in_default : goal.returns-in_default
returns-in_default c =
    like_else c.args.e.now
    c.in_default.not-Block c.in_default.not-If c.in_default.not-IfLet c.in_default.not-Match
    c.in_default.not-Loop c.in_default.not-While c.in_default.not-WhileLet
