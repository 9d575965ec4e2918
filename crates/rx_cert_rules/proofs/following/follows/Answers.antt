use Rattle.std.proofs.Common.{map, length, sym, subst, arith, List, ℕ, ◌≤◌}
use Rattle.std.proofs.lemmas.List.{length-map}
use Rattle.rx_lower_walks.specs.PlainSite.{plain-Site}
use Rattle.rx_loan.specs.PlainOf.{plain-Loan}
use Rattle.rx_cert_rules.specs.Parts.{SomeFollow}
use Rattle.rx_cert_rules.specs.Rules.{Follows}
use Rattle.rx_cert_rules.specs.Written.{inside}
use Rattle.rx_cert_rules.proofs.Telling.{fails, is_not}
use Rattle.rx_cert_rules.proofs.Scopes.{follows_so, begins_of, goes_on_of}
use Rattle.rx_cert_rules.proofs.following.follows.Goals as goal

pub returns-then-not-some_follow : goal.returns-then-not-some_follow
returns-then-not-some_follow c =
    let g = map plain-Site c.args.sites.now in
    let I = inside c.args.rows.now.regions.now c.args.rows.now.sites c.args.loan.now.region in
    let S = inside c.args.rows.now.scopes.now c.args.rows.now.sites c.args.number in
    let l = plain-Loan c.args.loan.now in
    fails (Follows g I l S) (λ f. is_not (SomeFollow I S c.targets-next.result.now) c.some_follow.result c.some_follow.ensures c.if-not-some_follow.true
    (subst (λ (xs : List ℕ). SomeFollow I S xs) c.targets-next.ensures (begins_of g I l S f)))

pub returns : goal.returns
returns c =
    let g = map plain-Site c.args.sites.now in
    let I = inside c.args.rows.now.regions.now c.args.rows.now.sites c.args.loan.now.region in
    let S = inside c.args.rows.now.scopes.now c.args.rows.now.sites c.args.number in
    let l = plain-Loan c.args.loan.now in (
      λ e. follows_so g I l S (length c.args.sites.now) (subst (λ (n : ℕ). length g ≤ n) (length-map c.args.sites.now plain-Site) (omega arith))
          (subst (λ (xs : List ℕ). SomeFollow I S xs) (sym c.targets-next.ensures) (c.some_follow.ensures.0 c.if-not-some_follow.false)) (c.goes_on.ensures.0 e),
      λ f. c.goes_on.ensures.1 (goes_on_of g I l S (length c.args.sites.now) f),
    )
