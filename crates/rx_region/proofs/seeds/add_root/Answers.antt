use Rattle.rx_graph_bits.specs.Rows.{words}
use Rattle.rx_lower_walks.specs.PlainFlow.{plain-Root}
use Rattle.rx_lower_lifetimes.specs.Answer.{plain-Lifetimes}
use Rattle.rx_region.specs.Seeds.{Lived}
use Rattle.rx_region.proofs.Seeding.{grows_none}
use Rattle.rx_region.proofs.Wholes.{no_lived}
use Rattle.rx_region.proofs.seeds.add_root.Goals as goal

pub returns-in-None : goal.returns-in-None
returns-in-None c = grows_none c.args.live.now c.args.sites (words c.args.bound) c.args.rows.now (λ g. Lived (plain-Lifetimes c.args.lifetimes.now) g (plain-Root c.args.root))
    c.requires.regular (no_lived (plain-Lifetimes c.args.lifetimes.now) (plain-Root c.args.root) c.in-None.ensures)
