use Rattle.std.proofs.Common.{◌≡◌, ◌++◌, drop}
use Rattle.rx_lower_walks.specs.Around.{exits}
use Rattle.rx_lower_walks.specs.Emitted.{entered}
use Rattle.rx_lower_walks.proofs.exits.entered.Given as goal

abbrev pub invariant-loop-begin : goal.invariant-loop-begin
invariant-loop-begin l = l.all ++ entered (drop l.begin-index l.begins) l.at (exits l.on l.fails l.loops) ≡ entered l.begins l.at (exits l.on l.fails l.loops)
