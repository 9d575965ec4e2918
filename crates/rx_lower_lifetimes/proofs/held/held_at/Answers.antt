use Rattle.std.proofs.Common.{sym, ap, subst, map, length, ◌≤◌, ◌∙◌}
use Rattle.rx_typed.specs.Regions.{region-Ty}
use Rattle.rx_lower_walks.specs.PlainFlow.{plain-Temporary}
use Rattle.rx_lower_lifetimes.specs.Finding.{place_of}
use Rattle.rx_lower_lifetimes.specs.PlainOf.{plain-Held}
use Rattle.rx_lower_lifetimes.specs.Values.{held_type}
use Rattle.rx_lower_lifetimes.proofs.Finding.{found, unfound}
use Rattle.rx_lower_lifetimes.proofs.held.held_at.Goals as goal

pub returns-then-at-held : goal.returns-then-at-held
returns-then-at-held c =
    ap (λ h. region-Ty h.ty) (sym c.index-held-at.is)
    ∙ found c.as_slice-held.result.now (plain-Temporary c.args.temporary) c.find-at.result c.index-held-at.result
    (c.find-at.ensures ∙ ap (λ l. place_of (map plain-Held l) (plain-Temporary c.args.temporary)) (sym c.as_slice-held.ensures)) c.if-at-held.true c.index-held-at.is
    ∙ ap (λ l. held_type (map plain-Held l) (plain-Temporary c.args.temporary)) c.as_slice-held.ensures

pub returns-else-at-held : goal.returns-else-at-held
returns-else-at-held c = unfound c.args.held.now (plain-Temporary c.args.temporary) c.find-at.result c.find-at.ensures
    (subst (λ l. length l ≤ c.find-at.result) c.as_slice-held.ensures c.if-at-held.false)
