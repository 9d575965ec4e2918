use Rattle.std.proofs.Common.{◌≡◌, ap, sym, ◌∙◌}
use Rattle.rx_typed.specs.PlainTypes.{plain-Ty, typ_tuple}
use Rattle.rx_hoist_extraction.specs.Plan.{is_unit}
use Rattle.rx_hoist_made.proofs.CountLemmas.{no_parts}
use Rattle.rx_hoist_made.proofs.exits.is_unit.Goals as goal

pub returns-in-Tuple : goal.returns-in-Tuple
returns-in-Tuple c = no_parts c.is_empty.result c.in-Tuple.parts c.is_empty.ensures
    ∙ ap is_unit (sym (ap plain-Ty c.in-Tuple.is ∙ typ_tuple c.in-Tuple.parts))
