-- Those so far, and those of the functions that are left, are all.
use Rattle.std.proofs.Common.{◌≡◌, ◌++◌, drop}
use Rattle.rx_typed.specs.PlainTypes.{declarations}
use Rattle.rx_engine_extraction.specs.Confirmed.{units_among}
use Rattle.rx_engine_extraction.proofs.told.units_among.Given as goal

abbrev pub invariant-loop-function : goal.invariant-loop-function
invariant-loop-function l =
    l.units.items ++ units_among (declarations l.decls.items) (drop l.function-index l.functions) ≡ units_among (declarations l.decls.items) l.functions
