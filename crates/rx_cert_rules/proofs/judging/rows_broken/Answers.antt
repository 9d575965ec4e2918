use Rattle.std.proofs.Common.{ℕ, map, inl, inr, refl, sym, subst}
use Rattle.rx_lower_walks.specs.PlainSite.{plain-Site}
use Rattle.rx_loan.specs.PlainOf.{plain-Loan}
use Rattle.rx_cert_rules.specs.Parts.{Tells}
use Rattle.rx_cert_rules.specs.Rules.{LoansFollow, NoneConflicts}
use Rattle.rx_cert_rules.specs.Written.{inside}
use Rattle.rx_cert_rules.proofs.Telling.{is_not}
use Rattle.rx_cert_rules.proofs.judging.rows_broken.Goals as goal

pub returns-then-not-all_follow : goal.returns-then-not-all_follow
returns-then-not-all_follow c =
    let g = map plain-Site c.args.sites.now in
    let R = inside c.args.rows.now.regions.now c.args.rows.now.sites in
    let W = inside c.args.rows.now.scopes.now c.args.rows.now.sites in
    inl (refl, is_not (LoansFollow g R (map plain-Loan c.args.loans.now) W) c.all_follow.result c.all_follow.ensures c.if-not-all_follow.true)

pub returns-then-not-none_conflicts : goal.returns-then-not-none_conflicts
returns-then-not-none_conflicts c =
    let g = map plain-Site c.args.sites.now in
    let ls = map plain-Loan c.args.loans.now in
    let tells = subst (λ (n : ℕ). Tells c.none_conflicts.result (NoneConflicts g ls (inside c.args.rows.now.scopes.now n))) (sym c.requires) c.none_conflicts.ensures in
    inr (
      refl,
      c.all_follow.ensures.0 c.if-not-all_follow.false,
      is_not (NoneConflicts g ls (inside c.args.rows.now.scopes.now c.args.rows.now.sites)) c.none_conflicts.result tells c.if-not-none_conflicts.true,
    )

pub returns : goal.returns
returns c =
    let g = map plain-Site c.args.sites.now in
    let ls = map plain-Loan c.args.loans.now in
    let tells = subst (λ (n : ℕ). Tells c.none_conflicts.result (NoneConflicts g ls (inside c.args.rows.now.scopes.now n))) (sym c.requires) c.none_conflicts.ensures in
    (c.all_follow.ensures.0 c.if-not-all_follow.false, tells.0 c.if-not-none_conflicts.false)
