use Rattle.std.proofs.Common.{map, sym, ◌∙◌, subst, true≢false, List, ℕ}
use Rattle.rx_lower_walks.specs.PlainFlow.{plain-Place}
use Rattle.rx_lower_walks.specs.PlainSite.{plain-Site}
use Rattle.rx_cert_rules.specs.Parts.{SomeFollow, GoesOnAt}
use Rattle.rx_cert_rules.specs.Written.{inside}
use Rattle.rx_cert_rules.proofs.Telling.{holds}
use Rattle.rx_cert_rules.proofs.following.goes_on_at.Goals as goal

pub returns-then-not-has_site : goal.returns-then-not-has_site
returns-then-not-has_site c =
    let g = map plain-Site c.args.sites.now in
    let I = inside c.args.rows.now.regions.now c.args.rows.now.sites c.args.loan.now.region in
    let S = inside c.args.rows.now.scopes.now c.args.rows.now.sites c.args.number in
    holds (GoesOnAt g I (plain-Place c.args.loan.now.place) S c.args.site) (λ w e. absurd (true≢false (sym w ∙ (sym c.has_site.ensures ∙ c.if-not-has_site.true))))

pub returns-then-ends_at : goal.returns-then-ends_at
returns-then-ends_at c =
    let g = map plain-Site c.args.sites.now in
    let I = inside c.args.rows.now.regions.now c.args.rows.now.sites c.args.loan.now.region in
    let S = inside c.args.rows.now.scopes.now c.args.rows.now.sites c.args.number in
    holds (GoesOnAt g I (plain-Place c.args.loan.now.place) S c.args.site) (λ w e. absurd (true≢false (sym c.if-ends_at.true ∙ (c.ends_at.ensures ∙ e))))

pub returns : goal.returns
returns c =
    let g = map plain-Site c.args.sites.now in
    let I = inside c.args.rows.now.regions.now c.args.rows.now.sites c.args.loan.now.region in
    let S = inside c.args.rows.now.scopes.now c.args.rows.now.sites c.args.number in (
      λ e w x. subst (λ (xs : List ℕ). SomeFollow I S xs) (sym c.targets.ensures) (c.some_follow.ensures.0 e),
      λ h. c.some_follow.ensures.1 (subst (λ (xs : List ℕ). SomeFollow I S xs) c.targets.ensures
          (h (sym c.has_site.ensures ∙ c.if-not-has_site.false) (sym c.ends_at.ensures ∙ c.if-ends_at.false))),
    )
