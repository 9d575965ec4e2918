use Rattle.std.proofs.Common.{◌≡◌, List, take}
use Rattle.rx_lower_walks.specs.Graph.{Site}
use Rattle.rx_lower_walks.specs.declared.actions.Root.{Root}
use Rattle.rx_lower_walks.specs.PlainFlow.{plain-Root}
use Rattle.rx_facts_tables.specs.LiveTables.{IsNumberOf, Lives}
use Rattle.rx_exits.specs.Marks.{marks_from}
use Rattle.rx_exits.specs.Living.{NoneLive}
use Rattle.rx_exits.proofs.run_living.live_there.Given as goal

abbrev pub invariant-loop-mark : goal.invariant-loop-mark
invariant-loop-mark l = (g : List Site) (root : Root) → IsNumberOf l.live.index.roots root l.number → Lives g l.live → l.marks ≡ marks_from 0 g
    → NoneLive g (plain-Root root) (take l.mark-index l.marks) l.point
