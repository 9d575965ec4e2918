use Rattle.std.proofs.Common.{◌≡◌, [], drop}
use Rattle.rx_resolve_names.specs.Items.{distinct}
use Rattle.rx_resolve.proofs.walk.Walk.distinct.Given as goal

abbrev pub invariant-loop-i : goal.invariant-loop-i
invariant-loop-i l = distinct l.seen l.i (drop l.i l.names) l.fn.self.tables ≡ distinct [] 0 l.fn.names l.fn.self.tables
