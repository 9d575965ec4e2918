use Rattle.std.proofs.Common.{sym, ◌∙◌, arith}
use Rattle.rx_cert_rules.specs.Parts.{SomeFollow}
use Rattle.rx_cert_rules.specs.Written.{inside}
use Rattle.rx_cert_rules.proofs.Telling.{holds, fails}
use Rattle.rx_cert_rules.proofs.Scopes.{all_of_list, one_of_list}
use Rattle.rx_cert_rules.proofs.following.some_follow.Goals as goal

pub returns-then-not-has_site : goal.returns-then-not-has_site
returns-then-not-has_site c =
    let I = inside c.args.rows.now.regions.now c.args.rows.now.sites c.args.lifetime in
    let S = inside c.args.rows.now.scopes.now c.args.rows.now.sites c.args.loan in
    fails (SomeFollow I S c.args.next.now) (one_of_list I S c.args.next.now c.next.k c.next-test.true
    (sym c.has_site.ensures ∙ c.if-has_site.true) (sym c.has_site-then-has_site.ensures ∙ c.if-not-has_site.true))

pub returns : goal.returns
returns c =
    let I = inside c.args.rows.now.regions.now c.args.rows.now.sites c.args.lifetime in
    let S = inside c.args.rows.now.scopes.now c.args.rows.now.sites c.args.loan in
    holds (SomeFollow I S c.args.next.now) (all_of_list I S c.args.next.now (λ k h. c.next.invariant k (omega (arith, h, c.next-test.false))))
