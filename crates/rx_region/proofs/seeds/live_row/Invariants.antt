use Rattle.std.proofs.Common.{◌≡◌, List, length}
use Rattle.rx_graph_bits.specs.Rows.{words}
use Rattle.rx_graph_closure.specs.Filling.{HasExactly}
use Rattle.rx_lower_walks.specs.PlainFlow.{plain-Root}
use Rattle.rx_lower_walks.specs.Graph.{Site}
use Rattle.rx_facts_tables.specs.LiveTables.{Lives, IsNumberOf}
use Rattle.rx_region.specs.Seeds.{LiveBefore}
use Rattle.rx_region.proofs.seeds.live_row.Given as goal

abbrev pub invariant-loop-site : goal.invariant-loop-site
invariant-loop-site l =
    (length l.row ≡ words l.bound) × IsNumberOf l.live.index.roots l.fn.root l.number
    × ((g : List Site) → Lives g l.live → l.sites ≡ length g → HasExactly (words l.bound) l.row (LiveBefore g (plain-Root l.fn.root) l.site))
