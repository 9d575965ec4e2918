use Rattle.std.proofs.Common.{◌≡◌, [], drop}
use Rattle.rx_resolve_names.specs.Meant.{firsts}
use Rattle.rx_resolve.proofs.items.firsts.Given as goal

abbrev pub invariant-loop-i : goal.invariant-loop-i
invariant-loop-i l = firsts l.names l.i (drop l.i l.idents) ≡ firsts [] 0 l.fn.idents
