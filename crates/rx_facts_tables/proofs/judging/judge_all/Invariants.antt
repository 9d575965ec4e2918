use Rattle.std.proofs.Common.{◌≡◌, ℕ, ◌<◌, Some, map}
use Rattle.rx_lower_walks.specs.Graph.{Site, site_at}
use Rattle.rx_lower_walks.specs.PlainSite.{plain-Site}
use Rattle.rx_facts_tables.specs.Judged.{Well}
use Rattle.rx_facts_tables.proofs.judging.judge_all.Given as goal

abbrev pub invariant-loop-i : goal.invariant-loop-i
invariant-loop-i l = (i : ℕ) (s : Site) → site_at (map plain-Site l.sites) i ≡ Some s → i < l.i → Well l.setup l.mutable l.facts i s.action
