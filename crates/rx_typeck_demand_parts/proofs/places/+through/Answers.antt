use Rattle.std.proofs.Common.{◌++◌, ap, sym, ◌∙◌, append-nil}
use Rattle.rx_typeck_demand_parts.proofs.places.+through.Goals as goal
use Rattle.rx_typeck_demand_parts.proofs.Dereferences.{through_nothing}

pub push_through-returns-in_default : goal.push_through-returns-in_default
push_through-returns-in_default t c =
    sym (ap (λ ps. c.args.passing.now ++ ps) (through_nothing c.args.place.now c.args.number c.in_default.not-Field c.in_default.not-Part c.in_default.not-Deref) ∙ append-nil c.args.passing.now)
