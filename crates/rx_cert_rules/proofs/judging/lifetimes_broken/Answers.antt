use Rattle.std.proofs.Common.{map, length, inr, refl, sym}
use Rattle.std.proofs.lemmas.List.{length-map}
use Rattle.rx_lower_walks.specs.PlainSite.{plain-Site}
use Rattle.rx_region.specs.PlainContext.{plain-Given}
use Rattle.rx_cert_rules.specs.Rules.{EndsKnown}
use Rattle.rx_cert_rules.specs.Written.{written}
use Rattle.rx_cert_rules.proofs.Telling.{is_not}
use Rattle.rx_cert_rules.proofs.judging.lifetimes_broken.Goals as goal

pub returns-then-not-branch-2 : goal.returns-then-not-branch-2
returns-then-not-branch-2 c lives named =
    let C = plain-Given c.args.given.now in let g = map plain-Site c.args.sites.now in
    let one = c.in_ok-constrained.ensures C g (c.in_ok-outlives.ensures.asks lives) named (sym (length-map c.args.sites.now plain-Site)) refl refl in
    let two = c.in_ok-ends_known.ensures C c.in_ok-known.ensures refl in
    inr (
      refl,
      one.0 c.if-not-branch.false,
      is_not (EndsKnown C (written (length c.args.sites.now) c.args.given.now.lifetimes.now.own c.args.regions.now)) c.in_ok-ends_known.field-0 two c.if-not-branch-2.true,
    )

pub returns : goal.returns
returns c lives named =
    let C = plain-Given c.args.given.now in let g = map plain-Site c.args.sites.now in
    let one = c.in_ok-constrained.ensures C g (c.in_ok-outlives.ensures.asks lives) named (sym (length-map c.args.sites.now plain-Site)) refl refl in
    let two = c.in_ok-ends_known.ensures C c.in_ok-known.ensures refl in
    (one.0 c.if-not-branch.false, two.0 c.if-not-branch-2.false)
