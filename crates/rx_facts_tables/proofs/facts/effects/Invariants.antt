use Rattle.std.proofs.Common.{◌++◌, List, drop, map}
use Rattle.rx_graph.specs.declared.effect.Effect.{Effect}
use Rattle.rx_lower_walks.specs.PlainSite.{plain-Site}
use Rattle.rx_facts_tables.specs.Tracking.{EachDoes}
use Rattle.rx_facts_tables.specs.Layouts.{plain-Frame}
use Rattle.rx_facts_tables.specs.Tables.{DoesAt, switches}
use Rattle.rx_facts_tables.proofs.facts.effects.Given as goal

abbrev pub invariant-loop-site : goal.invariant-loop-site
invariant-loop-site l = (rest : List Effect) → EachDoes (DoesAt (switches (plain-Frame l.setup.frame.now) l.setup.watched.now l.kind)) rest (map plain-Site (drop l.site-index l.sites))
    → EachDoes (DoesAt (switches (plain-Frame l.setup.frame.now) l.setup.watched.now l.kind)) (l.all.items ++ rest) (map plain-Site l.sites)
