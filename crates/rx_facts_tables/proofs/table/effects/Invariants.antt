use Rattle.std.proofs.Common.{◌++◌, List, drop, map}
use Rattle.rx_graph.specs.declared.effect.Effect.{Effect}
use Rattle.rx_lower_walks.specs.PlainSite.{plain-Site}
use Rattle.rx_facts_tables.specs.Tracking.{EachDoes}
use Rattle.rx_facts_tables.specs.Effects.{DoesAt}
use Rattle.rx_facts_tables.proofs.table.effects.Given as goal

abbrev pub invariant-loop-site : goal.invariant-loop-site
invariant-loop-site l = (rest : List Effect) → EachDoes (DoesAt l.index.roots) rest (map plain-Site (drop l.site-index l.sites))
    → EachDoes (DoesAt l.index.roots) (l.all.items ++ rest) (map plain-Site l.sites)
