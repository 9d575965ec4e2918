use Rattle.std.proofs.Common.{◌≡◌, ◌++◌, drop}
use Rattle.rx_region_outlives.specs.Related as spec
use Rattle.rx_region_outlives.proofs.related.add_arguments.Given as goal

abbrev pub invariant-loop-long : goal.invariant-loop-long
invariant-loop-long l = l.pairs ++ spec.arguments l.polarity l.polarities (drop l.long-index l.held) l.wanted
    ≡ l.fn.pairs ++ spec.arguments l.fn.polarity l.fn.polarities l.fn.held l.fn.wanted
