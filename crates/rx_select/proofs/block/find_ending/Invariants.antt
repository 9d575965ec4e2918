use Rattle.std.proofs.Common.{◌≡◌, ◌++◌, drop}
use Rattle.rx_select.specs.Search.{if_any, ending}
use Rattle.rx_select.proofs.Forms.{spans}
use Rattle.rx_select.proofs.block.find_ending.Given as goal

abbrev pub invariant-loop-i : goal.invariant-loop-i
invariant-loop-i l = ending l.places l.i (spans (drop l.i l.stmts) ++ if_any l.tail) ≡ ending l.places 0 (spans l.stmts ++ if_any l.tail)
