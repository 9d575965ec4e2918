use Rattle.rx_graph_bits.specs.Rows.{words}
use Rattle.rx_lower_lifetimes.specs.Answer.{plain-Lifetimes}
use Rattle.rx_region.proofs.Seeding.{variable_more, variable_end}
use Rattle.rx_region.proofs.seeds.add_variables.Goals as goal

pub loop-variable-preserved : goal.loop-variable-preserved
loop-variable-preserved c = variable_more c.args.live.now c.args.sites (words c.args.bound) (plain-Lifetimes c.args.lifetimes.now) c.loop-variable.variable
    c.args.rows.now c.loop-variable.rows c.add_root.new.rows c.requires.regular c.loop-variable.invariant c.in_ok-add_root.ensures

pub returns : goal.returns
returns c = variable_end c.args.live.now c.args.sites (words c.args.bound) (plain-Lifetimes c.args.lifetimes.now) c.loop-variable.variable c.args.count
    c.args.rows.now c.loop-variable.rows c.loop-variable.auto.variable-end c.loop-variable-test.false c.loop-variable.invariant
