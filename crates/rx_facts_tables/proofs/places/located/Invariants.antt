use Rattle.std.proofs.Common.{◌≡◌, drop}
use Rattle.rx_typed.specs.PlainTypes.{declarations}
use Rattle.rx_typed_declarations.specs.Sizes.{told}
use Rattle.rx_facts_tables.specs.Places.{located}
use Rattle.rx_facts_tables.specs.Layouts.{plain-Spot, plain-Located, Fits}
use Rattle.rx_facts_tables.proofs.places.located.Given as goal

abbrev pub invariant-loop-step : goal.invariant-loop-step
invariant-loop-step l = record {
  same : located (declarations l.frame.decls.now.items) (told l.frame.sizes.now) (drop l.step-index l.steps) l.at.first (plain-Spot l.at.spot)
      ≡ located (declarations l.fn.frame.decls.now.items) (told l.fn.frame.sizes.now) l.fn.steps l.fn.at.first (plain-Spot l.fn.at.spot);
  fits : Fits (told l.frame.sizes.now) (plain-Located l.at);
}
