use Rattle.std.proofs.Common.{[], ap, ◌∙◌, Some, subst, sym}
use Rattle.std.specs.Prelude.{IsSome}
use Rattle.rx_typeck_solver.proofs.ListReads.{drop_end, append_nil}
use Rattle.rx_typeck_solver.proofs.Lacking.{item_known, is_not_none}
use Rattle.rx_typeck_solver.specs.Solver.{terms_at}
use Rattle.rx_typeck_solver.specs.Tabled.{index_of}
use Rattle.rx_typeck_solver.proofs.reading.entries.Goals as goal

pub returns : goal.returns
returns c = c.loop-of.invariant [] (ap (terms_at (index_of c.args.tables.now)) (drop_end c.as_slice-of-items.result.now c.args.of.now c.loop-of.of-index c.as_slice-of-items.ensures c.loop-of-test.false)) ∙ ap Some (append_nil c.loop-of.all.items)

pub unreachable-requires : goal.unreachable-requires
unreachable-requires c = is_not_none c.shape.result c.in-None.is (subst (λ o. IsSome o) (sym c.shape.ensures) (item_known (index_of c.args.tables.now) c.as_slice-of-items.result.now c.args.of.now c.loop-of.of-index _ c.as_slice-of-items.ensures c.loop-of-test.true c.requires))
