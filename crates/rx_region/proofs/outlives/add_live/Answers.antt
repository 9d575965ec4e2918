use Rattle.std.proofs.Common.{refl, ◌∙◌}
use Rattle.rx_graph_bits.specs.Rows.{words}
use Rattle.rx_lower_lifetimes.specs.Answer.{plain-Lifetimes}
use Rattle.rx_region.proofs.Wholes.{live_added}
use Rattle.rx_region.proofs.outlives.add_live.Goals as goal

pub returns : goal.returns
returns c = live_added (plain-Lifetimes c.args.lifetimes.now) c.args.live.now c.args.sites (words c.args.bound) c.in-Ok.count c.args.rows.now c.add_variables.new.rows
    c.add_temporaries.new.rows c.args.lifetimes.now.temporaries c.as_slice.result.now (c.in-Ok.ensures.1 ∙ c.variables.ensures) refl c.as_slice.ensures c.requires.regular
    c.in_ok-add_variables.ensures c.in_ok-add_temporaries.ensures
