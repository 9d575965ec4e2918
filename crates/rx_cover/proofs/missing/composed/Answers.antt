use Rattle.std.proofs.Common.{◌∙◌, ap}
use Rattle.rx_typed.specs.PlainTypes.{plain-Ty, typ_item}
use Rattle.rx_cover.proofs.missing.composed.Goals as goal

pub returns-in-Adt : goal.returns-in-Adt
returns-in-Adt c = rw (ap plain-Ty c.in-Adt.is ∙ typ_item c.in-Adt.item c.in-Adt.field-1) c.made.ensures
