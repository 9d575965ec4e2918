use Rattle.std.proofs.Common.{rules, ◌≡◌, ◌++◌, [], OnOk, drop, map, slice_get, ℕ, ◌+◌, ◌-◌, ◌*◌, ◌<◌, ◌≤◌, length, ◌/◌, ◌%◌, Bool, true, false, nat_eq, nat_lt, List, ◌∷◌, slice_index_or, slice_set, bit_and, bit_or, Fits, w8, w32, w64, Bor, MutBor}
use Rattle.rx_typed.specs.Regions.{region-Ty, regions_of}
use Rattle.rx_typed_declarations.specs.Variance.{variances_recorded}
use Rattle.rx_region_outlives.specs.Related as spec
use Rattle.rx_region_outlives.proofs.related.add_arguments.Goals as goal
use Rattle.std.proofs.Common.{◌∙◌}
use Rattle.rx_region_outlives.proofs.Steps.{arguments_more}

pub loop-long-preserved : goal.loop-long-preserved
loop-long-preserved c =
    rw (c.other_polarities-polarities.ensures, c.others-wanted.ensures)
    (arguments_more c.args.polarity c.loop-long.polarities.now c.args.held.now c.loop-long.wanted.now c.loop-long.long-index
    c.loop-long.pairs c.add_argument.new.pairs c.loop-long-test.true c.in_ok-add_argument.ensures ∙ c.loop-long.invariant)
