use Rattle.std.proofs.Common.{map, get_or, refl, subst, sym, ◌≤◌}
use Rattle.std.proofs.lemmas.List.{length-map}
use Rattle.rx_lower_walks.specs.PlainSite.{plain-Site}
use Rattle.rx_facts_tables.proofs.Each.{site_there}
use Rattle.rx_loan.specs.Loans.{loans_of}
use Rattle.rx_loan.proofs.Forbidding.{legal_next, legal_at_all, one_met}
use Rattle.rx_loan.proofs.forbids.legal.Goals as goal

pub returns-in-Some : goal.returns-in-Some
returns-in-Some c os R table = one_met (map plain-Site c.args.sites.now) os R c.args.table.now c.sites.k c.in-Some.borrow (plain-Site (get_or c.args.sites.now c.sites.k c.index-sites-k.result)) table
    (site_there c.args.sites.now c.sites.k (get_or c.args.sites.now c.sites.k c.index-sites-k.result) c.index-sites-k.result c.sites-test.true refl) c.in-Some.ensures

pub sites-preserved : goal.sites-preserved
sites-preserved c os R table = legal_next (map plain-Site c.args.sites.now) os R c.args.table.now c.sites.k (plain-Site (get_or c.args.sites.now c.sites.k c.index-sites-k.result)) table
    (site_there c.args.sites.now c.sites.k (get_or c.args.sites.now c.sites.k c.index-sites-k.result) c.index-sites-k.result c.sites-test.true refl) c.in_default.ensures (c.sites.invariant os R table)

pub returns : goal.returns
returns c os R table = legal_at_all (map plain-Site c.args.sites.now) R (loans_of (map plain-Site c.args.sites.now) os) c.sites.k
    (subst (λ n. n ≤ c.sites.k) (sym (length-map c.args.sites.now plain-Site)) c.sites-test.false) (c.sites.invariant os R table)
