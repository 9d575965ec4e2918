use Rattle.rx_lower.specs.Functions.{function}
use Rattle.rx_repair.proofs.Filling.{held_has, are_of_items}
use Rattle.rx_repair.proofs.renaming_laws.values_have_the_types_of_temporaries.Goals as goal

pub returns : goal.returns
returns c = record {
  held = λ D P f T values. held_has D P f T values (c.filled_temporaries_have_types.ensures (function D f));
  items = λ D P f T values items. are_of_items D P f T values (c.filled_temporaries_have_types.ensures (function D f)) items;
}
