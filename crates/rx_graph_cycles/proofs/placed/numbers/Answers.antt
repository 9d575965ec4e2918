use Rattle.std.proofs.Common.{ℕ, List, sym, subst}
use Rattle.rx_graph_cycles.specs.Reaches.{IsIn}
use Rattle.rx_graph_cycles.proofs.Placing.{numbers_more}
use Rattle.rx_graph_cycles.proofs.placed.numbers.Goals as goal

pub loop-i-preserved : goal.loop-i-preserved
loop-i-preserved c j h =
    let In : List ℕ → Type 0 = λ ns. IsIn ns j in
    subst In (sym c.in_ok-push.ensures.items) (numbers_more c.loop-i.numbers.items c.loop-i.i c.loop-i.invariant j h)
