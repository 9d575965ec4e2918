use Rattle.std.proofs.Common.{length, None, ap, ◌∙◌, ◌∷◌, [], inr, arith, get_or, length-append}
use Rattle.rx_typeck_solver.proofs.Tabling.{pushed_none}
use Rattle.rx_typeck_solver.proofs.tables.lengthen.Goals as goal

pub loop-table-preserved : goal.loop-table-preserved
loop-table-preserved c = (
  λ z. ap (λ l. get_or l z None) c.in-Ok.ensures.items ∙ pushed_none c.loop-table.table.items z ∙ c.loop-table.invariant.0 z,
  inr (let l = ap (λ l. length l) c.in-Ok.ensures.items ∙ length-append c.loop-table.table.items (None ∷ []) in omega (arith, l, c.len.ensures, c.loop-table-test.true)),
)
