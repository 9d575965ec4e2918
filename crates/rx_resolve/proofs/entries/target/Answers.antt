use Rattle.std.proofs.Common.{◌≡◌, ◌-◌, suc, [], ap, sym, ◌∙◌, refl, arith, take}
use Rattle.rx_resolve.specs.declared.walk.Around.TheVariants as form
use Rattle.rx_resolve_names.specs.Meant.{target, to_loop}
use Rattle.rx_resolve.specs.Walks.{around_from}
use Rattle.rx_resolve.proofs.entries.target.Goals as goal
use Rattle.rx_resolve.proofs.WalkLemmas.{past_test, past_loop, at_loop, beyond}

pub loop-left-preserved-in-Test : goal.loop-left-preserved-in-Test
loop-left-preserved-in-Test c =
    let one : c.loop-left.left ≡ suc (c.loop-left.left - 1) = omega arith in (
      past_test c.args.wanted.now c.args.around.now (c.loop-left.left - 1) c.loop-left.tested _ _ (omega arith) c.in-Test.is
          (ap (λ n. beyond c.loop-left.tested (target c.args.wanted.now (around_from [] (take n c.args.around.now)))) (sym one) ∙ c.loop-left.invariant.0),
      omega arith,
    )

pub loop-left-preserved : goal.loop-left-preserved
loop-left-preserved c =
    let one : c.loop-left.left ≡ suc (c.loop-left.left - 1) = omega arith in (
      past_loop c.args.wanted.now c.args.around.now (c.loop-left.left - 1) c.loop-left.tested _ (form.Loop c.in-Loop.label c.in-Loop.number) _ _ c.in-Loop.number (omega arith) c.in-Loop.is refl (sym c.if-is_meant.ensures)
          (ap (λ n. beyond c.loop-left.tested (target c.args.wanted.now (around_from [] (take n c.args.around.now)))) (sym one) ∙ c.loop-left.invariant.0),
      omega arith,
    )

pub returns-then-tested : goal.returns-then-tested
returns-then-tested c =
    let one : c.loop-left.left ≡ suc (c.loop-left.left - 1) = omega arith in
    ap (λ b. beyond b (to_loop c.in-Loop.number)) (sym c.if-tested.true)
    ∙ at_loop c.args.wanted.now c.args.around.now (c.loop-left.left - 1) c.loop-left.tested _ (form.Loop c.in-Loop.label c.in-Loop.number) _ _ c.in-Loop.number (omega arith) c.in-Loop.is refl (sym c.if-is_meant.ensures)
    (ap (λ n. beyond c.loop-left.tested (target c.args.wanted.now (around_from [] (take n c.args.around.now)))) (sym one) ∙ c.loop-left.invariant.0)

pub returns-else-tested : goal.returns-else-tested
returns-else-tested c =
    let one : c.loop-left.left ≡ suc (c.loop-left.left - 1) = omega arith in
    ap (λ b. beyond b (to_loop c.in-Loop.number)) (sym c.if-tested.false)
    ∙ at_loop c.args.wanted.now c.args.around.now (c.loop-left.left - 1) c.loop-left.tested _ (form.Loop c.in-Loop.label c.in-Loop.number) _ _ c.in-Loop.number (omega arith) c.in-Loop.is refl (sym c.if-is_meant.ensures)
    (ap (λ n. beyond c.loop-left.tested (target c.args.wanted.now (around_from [] (take n c.args.around.now)))) (sym one) ∙ c.loop-left.invariant.0)
