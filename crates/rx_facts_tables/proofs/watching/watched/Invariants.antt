use Rattle.std.proofs.Common.{◌≡◌, ℕ, ◌<◌, Some, map}
use Rattle.rx_lower_walks.specs.Graph.{Site, site_at}
use Rattle.rx_lower_walks.specs.PlainSite.{plain-Site}
use Rattle.rx_facts_tables.specs.Tables.{KeepsFor}
use Rattle.rx_facts_tables.proofs.watching.watched.Given as goal

abbrev pub invariant-loop-site : goal.invariant-loop-site
invariant-loop-site l = (i : ℕ) (s : Site) → site_at (map plain-Site l.sites) i ≡ Some s → i < l.site-index → KeepsFor l.all s.action.act
