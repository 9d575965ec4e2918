-- The forms that the match passes over.
use Rattle.rx_print_places.proofs.Passed.{borrow_else}
use Rattle.rx_print_places.proofs.places.is_borrow.Goals as goal

pub returns-in_default : goal.returns-in_default
returns-in_default c =
    borrow_else c.args.e.now
    c.in_default.not-Borrow
