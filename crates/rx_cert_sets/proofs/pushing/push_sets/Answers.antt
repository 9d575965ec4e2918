-- What is written of these rows says these sets and scopes.
use Rattle.rx_graph.specs.Tables.{at}
use Rattle.rx_region.specs.Tables.{sets_of}
use Rattle.rx_cert_sets.proofs.Saying.{all_said}
use Rattle.rx_cert_sets.proofs.pushing.push_sets.Goals as goal

pub returns : goal.returns
returns c =
    all_said c.args.shape.now (sets_of c.args.regions.now) (at c.args.table.now.rows.items) c.in_ok-sets.sets c.in_ok-scopes.scopes c.as_slice.result.now c.as_slice-2.result.now
    c.len.result c.args.text.now c.push_function.new.text c.in_ok-sets.ensures c.in_ok-scopes.ensures c.len.ensures c.as_slice.ensures c.as_slice-2.ensures
    c.in_ok-push_function.ensures
