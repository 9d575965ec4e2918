use Rattle.std.proofs.Common.{◌+◌, sym, subst, List, ℕ}
use Rattle.rx_graph_bits.specs.Rows.{words}
use Rattle.rx_graph_closure.specs.Closing.{Closed}
use Rattle.rx_region.proofs.Solving.{are_least}
use Rattle.rx_region.proofs.regions.solve.Goals as goal

pub returns-clause-least : goal.returns-clause-least
returns-clause-least c = λ C g asks. are_least C g c.args.outlives.now asks (words (c.args.outlives.now.sites + c.args.outlives.now.own)) c.from_vec.result c.requires
    (subst (λ (V : List (List ℕ)). Closed c.args.outlives.now.pairs (words (c.args.outlives.now.sites + c.args.outlives.now.own)) c.args.outlives.now.rows V)
    (sym c.from_vec.ensures) c.in_ok-rows.ensures)
