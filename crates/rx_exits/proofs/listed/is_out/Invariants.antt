-- Some exit hands it out exactly where one of those does that are left.
use Rattle.std.proofs.Common.{◌≡◌, drop}
use Rattle.rx_exits.specs.Choosing.{outs_among}
use Rattle.rx_exits.proofs.listed.is_out.Given as goal

abbrev pub invariant-loop-each : goal.invariant-loop-each
invariant-loop-each l = outs_among (drop l.each-index l.exits) l.variable ≡ outs_among l.exits l.variable
