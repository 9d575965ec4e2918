-- The forms that the match passes over.
use Rattle.rx_print_places.proofs.Passed.{weakness_else}
use Rattle.rx_print_places.proofs.places.weakness.Goals as goal

pub returns-in_default : goal.returns-in_default
returns-in_default c =
    weakness_else c.args.e.now
    c.in_default.not-Deref c.in_default.not-Neg c.in_default.not-Not c.in_default.not-Borrow
    c.in_default.not-Binary c.in_default.not-Assign c.in_default.not-Update c.in_default.not-Break
    c.in_default.not-Continue c.in_default.not-Return
