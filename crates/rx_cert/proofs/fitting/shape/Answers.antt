use Rattle.std.proofs.Common.{ap, length, map, List, ◌∙◌}
use Rattle.rx_lower_walks.specs.PlainSite.{plain-Site}
use Rattle.rx_lower_walks.specs.declared.site.Site.{Site}
use Rattle.rx_lower_lifetimes.specs.PlainOwn.{plain-Own}
use Rattle.rx_loan.specs.Accesses.{Loan}
use Rattle.rx_loan.specs.Loans.{loans_of}
use Rattle.rx_cert.proofs.Shaping.{shape_is}
use Rattle.rx_cert.proofs.fitting.shape.Goals as goal

pub returns : goal.returns
returns c D graph = shape_is D c.args.function.now _ c.args.lowered.now.graph graph _ (ap (λ (l : List Site). length l) c.as_slice-sites.ensures) c.in_ok-borrows.borrows
    (c.in_ok-borrows.ensures ∙ (λ j. map (λ (l : Loan). l.site) (loans_of (map plain-Site (c.as_slice-sites.ensures j)) (map plain-Own (c.as_slice-owned.ensures j)))))
