use Rattle.std.proofs.Common.{◌∙◌, not, ◌&&◌}
use Rattle.rx_graph.specs.Tables.{at}
use Rattle.rx_region.specs.Solutions.{end}
use Rattle.rx_region.specs.Tables.{sets_of}
use Rattle.rx_region.proofs.Wholes.{same_lists}
use Rattle.rx_region.proofs.Knowing.{misses, keeps}
use Rattle.rx_region.proofs.Ordering.{first_listed}
use Rattle.rx_region.proofs.missing_pairs.missing.Goals as goal

pub returns-clause-in_order : goal.returns-clause-in_order
returns-clause-in_order c = c.in_ok-pairs.ensures
    ∙ same_lists c.args.regions.now.rows c.args.known.now.rows c.as_slice.result.now c.as_slice-2.result.now c.args.regions.now.sites c.args.known.now.own c.as_slice.ensures c.as_slice-2.ensures

pub returns-clause-first : goal.returns-clause-first
returns-clause-first c = first_listed (λ l k. sets_of c.args.regions.now l (end k) && not (at c.args.known.now.rows l k)) c.args.known.now.own c.in_ok-pairs.pairs
    (c.in_ok-pairs.ensures
    ∙ same_lists c.args.regions.now.rows c.args.known.now.rows c.as_slice.result.now c.as_slice-2.result.now c.args.regions.now.sites c.args.known.now.own c.as_slice.ensures c.as_slice-2.ensures)

pub returns-clause-exact : goal.returns-clause-exact
returns-clause-exact c = λ C g least knows. misses C g (sets_of c.args.regions.now) c.args.known.now.rows c.args.known.now.own least knows.own knows.rows c.in_ok-pairs.pairs
    (c.in_ok-pairs.ensures
    ∙ same_lists c.args.regions.now.rows c.args.known.now.rows c.as_slice.result.now c.as_slice-2.result.now c.args.regions.now.sites c.args.known.now.own c.as_slice.ensures c.as_slice-2.ensures)

pub returns-clause-keeps : goal.returns-clause-keeps
returns-clause-keeps c = λ C knows none. keeps C (sets_of c.args.regions.now) c.args.known.now.rows c.args.known.now.own knows.own knows.rows c.in_ok-pairs.pairs
    (c.in_ok-pairs.ensures
    ∙ same_lists c.args.regions.now.rows c.args.known.now.rows c.as_slice.result.now c.as_slice-2.result.now c.args.regions.now.sites c.args.known.now.own c.as_slice.ensures c.as_slice-2.ensures)
    none
