-- The plain sites of sites in code.
use Rattle.rx_lower_walks.specs.PlainFlow.{plain-Action}
use Rattle.rx_lower_walks.specs.Graph as graph
use Rattle.rx_lower_walks.specs.declared.site.Site.{Site}

abbrev pub plain-Site : Site → graph.Site
plain-Site s = record { action = plain-Action s.action; next = s.next }
