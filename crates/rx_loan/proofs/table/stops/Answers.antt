use Rattle.std.proofs.Common.{map, get_or, refl, subst, sym, ◌<◌}
use Rattle.std.proofs.lemmas.List.{length-map}
use Rattle.rx_lower_walks.specs.PlainFlow.{plain-Place}
use Rattle.rx_lower_walks.specs.PlainSite.{plain-Site}
use Rattle.rx_facts_tables.proofs.Each.{site_there}
use Rattle.rx_loan.proofs.Scoping.{stops_next}
use Rattle.rx_loan.proofs.table.stops.Goals as goal

pub sites-preserved : goal.sites-preserved
sites-preserved c = stops_next (map plain-Site c.args.sites.now) (plain-Place c.args.place.now) c.sites.row c.mark.new.row c.sites.k c.ends.result (plain-Site (get_or c.args.sites.now c.sites.k c.index-sites-k.result))
    (subst (λ n. c.sites.k < n) (sym (length-map c.args.sites.now plain-Site)) c.sites-test.true)
    (site_there c.args.sites.now c.sites.k (get_or c.args.sites.now c.sites.k c.index-sites-k.result) c.index-sites-k.result c.sites-test.true refl) c.ends.ensures c.mark.ensures c.sites.invariant
