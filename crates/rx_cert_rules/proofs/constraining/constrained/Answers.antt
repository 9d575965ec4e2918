use Rattle.std.proofs.Common.{◌+◌, List, subst, sym}
use Rattle.rx_core.specs.declared.types.Bound.{Bound}
use Rattle.rx_region.specs.Solutions.{Sets}
use Rattle.rx_cert_rules.specs.Parts.{AllHoldMust, AllHaveEnds, AllWithin}
use Rattle.rx_cert_rules.specs.Rules.{Constrained}
use Rattle.rx_cert_rules.specs.Written.{written}
use Rattle.rx_cert_rules.proofs.Telling.{fails, is_not}
use Rattle.rx_cert_rules.proofs.Points.{meets_all, holds_musts, has_ends, holds_pairs}
use Rattle.rx_cert_rules.proofs.constraining.constrained.Goals as goal

pub returns-then-not-all_hold_must : goal.returns-then-not-all_hold_must
returns-then-not-all_hold_must c C g asks named sites_are own_are count_is =
    let o = c.args.outlives.now in let T = c.args.rows.now in let n = c.args.sites in let own = c.args.own in let many = c.args.count in
    fails (Constrained C g (written n own T)) (λ s. is_not (AllHoldMust o T n many) c.all_hold_must.result c.all_hold_must.ensures c.if-not-all_hold_must.true
    (holds_musts C g o T n own many asks named sites_are own_are count_is (λ R. c.solutions_meet_constraints.ensures C g o R asks) s))

pub returns-then-not-all_have_ends : goal.returns-then-not-all_have_ends
returns-then-not-all_have_ends c C g asks named sites_are own_are count_is =
    let o = c.args.outlives.now in let T = c.args.rows.now in let n = c.args.sites in let own = c.args.own in let many = c.args.count in
    fails (Constrained C g (written n own T)) (λ s. is_not (AllHaveEnds T n own) c.all_have_ends.result c.all_have_ends.ensures c.if-not-all_have_ends.true
    (has_ends C g o T n own many asks named sites_are own_are count_is (λ R. c.solutions_meet_constraints.ensures C g o R asks) s))

pub returns : goal.returns
returns c C g asks named sites_are own_are count_is =
    let o = c.args.outlives.now in let T = c.args.rows.now in let n = c.args.sites in let own = c.args.own in let many = c.args.count in
    let law = λ (R : Sets). c.solutions_meet_constraints.ensures C g o R asks in
    let All = λ (ps : List Bound). AllWithin T ps (n + own) in (
      λ e. meets_all C g o T n own many asks named sites_are own_are count_is law (c.all_hold_must.ensures.0 c.if-not-all_hold_must.false)
          (c.all_have_ends.ensures.0 c.if-not-all_have_ends.false) (subst All c.as_slice.ensures (c.all_within.ensures.0 e)),
      λ s. c.all_within.ensures.1 (subst All (sym c.as_slice.ensures) (holds_pairs C g o T n own many asks named sites_are own_are count_is law s)),
    )
