use Rattle.std.proofs.Common.{ℕ, ◌≤◌, map, Option, sym, ap, ◌∙◌, subst}
use Rattle.std.proofs.lemmas.List.{length-map}
use Rattle.rx_lower_walks.specs.Graph.{Site}
use Rattle.rx_lower_walks.specs.PlainFlow.{plain-Place}
use Rattle.rx_lower_walks.specs.PlainSite.{plain-Site}
use Rattle.rx_facts_tables.proofs.Each.{site_there}
use Rattle.rx_loan.specs.Loans.{ends_at}
use Rattle.rx_cert_rules.proofs.Scopes.{no_site}
use Rattle.rx_cert_rules.proofs.following.ends_at.Goals as goal

pub returns-in-Some : goal.returns-in-Some
returns-in-Some c = c.ends.ensures ∙ ap (λ (o : Option Site). ends_at o (plain-Place c.args.place.now))
    (sym (site_there c.args.sites.now c.args.site c.in-Some.site.now c.in-Some.site.now c.in-Some.ensures.lookup.3.0 (c.in-Some.ensures.lookup.3.1 c.in-Some.site.now)))

pub returns-in-None : goal.returns-in-None
returns-in-None c = ap (λ (o : Option Site). ends_at o (plain-Place c.args.place.now))
    (sym (no_site (map plain-Site c.args.sites.now) c.args.site (subst (λ (n : ℕ). n ≤ c.args.site) (sym (length-map c.args.sites.now plain-Site)) c.in-None.ensures.lookup.3)))
