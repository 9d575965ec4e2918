use Rattle.std.proofs.Common.{◌≡◌, ◌+◌, ◌≤◌, length, sym, ◌∙◌, arith}
use Rattle.std.proofs.lemmas.List.{length-map}
use Rattle.rx_tree.specs.PlainOf.{plain-Program}
use Rattle.rx_hoist_plan.specs.PlainPlan.{plain-Param, plain-Plan}
use Rattle.rx_hoist_extraction.specs.NewFunction.{signature_positions}
use Rattle.rx_hoist.proofs.LimitLemmas.{parameters_told, lifetimes_told, none_passed}
use Rattle.rx_hoist.proofs.hoisting.within_limits.Goals as goal

pub returns-then-count-gt64-clause-limit : goal.returns-then-count-gt64-clause-limit
returns-then-count-gt64-clause-limit c =
    let pl = plain-Plan c.args.plan.now in
    parameters_told (length c.args.copied.now + signature_positions (plain-Program c.args.program.now) pl) pl c.len-count.result (c.len-count.ensures ∙ sym (length-map c.args.plan.now.params plain-Param)) (omega arith) c.if-count-gt64.true

pub returns-then-count-gt128-clause-limit : goal.returns-then-count-gt128-clause-limit
returns-then-count-gt128-clause-limit c =
    let pl = plain-Plan c.args.plan.now in
    lifetimes_told (length c.args.copied.now + signature_positions (plain-Program c.args.program.now) pl) pl c.len-count.result _ (c.len-count.ensures ∙ sym (length-map c.args.plan.now.params plain-Param)) c.if-count-gt64.false
    (omega (arith, c.saturating_add-count.ensures, c.signature_positions-positions.ensures)) c.if-count-gt128.true

pub returns-clause-limit : goal.returns-clause-limit
returns-clause-limit c =
    let pl = plain-Plan c.args.plan.now in
    none_passed (length c.args.copied.now + signature_positions (plain-Program c.args.program.now) pl) pl c.len-count.result c.saturating_add-count.result
    (c.len-count.ensures ∙ sym (length-map c.args.plan.now.params plain-Param)) c.if-count-gt64.false
    (omega (arith, c.saturating_add-count.ensures, c.signature_positions-positions.ensures)) c.if-count-gt128.false

pub returns-clause-within : goal.returns-clause-within
returns-clause-within c =
    let small : c.signature_positions-positions.result ≤ 128 = omega (arith, c.saturating_add-count.ensures, c.if-count-gt128.false) in
    let same : c.signature_positions-positions.result ≡ signature_positions (plain-Program c.args.program.now) (plain-Plan c.args.plan.now) = omega (arith, c.signature_positions-positions.ensures, small) in
    (same, small)
