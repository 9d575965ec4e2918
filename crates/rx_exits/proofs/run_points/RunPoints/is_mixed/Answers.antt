use Rattle.std.proofs.Common.{true, refl, sym, arith, true≢false}
use Rattle.rx_exits.proofs.Reading.{parts_are, mixed, none_mixed, mixed_more}
use Rattle.rx_exits.proofs.run_points.RunPoints.is_mixed.Goals as goal

pub loop-part-init : goal.loop-part-init
loop-part-init c = λ n from to m. omega (arith, from, to)

pub is_mixed_part-requires : goal.is_mixed_part-requires
is_mixed_part-requires c = omega (arith, c.loop-part-test.true, c.loop-part.auto.part-end, c.parts-parts.ensures.within, c.requires.layout.small)

pub returns-then-is_mixed_part : goal.returns-then-is_mixed_part
returns-then-is_mixed_part c A is =
    let p = c.args.self.now in let first = c.parts-parts.result.first in let count = c.parts-parts.result.count in (
      (λ h. mixed A p c.requires is c.args.variable first count c.loop-part.part (parts_are A p c.requires is c.args.variable first count c.parts-parts.ensures.first c.parts-parts.ensures.count)
          (omega (arith, c.loop-part.auto.part)) (omega (arith, c.loop-part-test.true, c.loop-part.auto.part-end)) c.if-is_mixed_part.ensures),
      λ m. refl,
    )

pub loop-part-preserved : goal.loop-part-preserved
loop-part-preserved c = mixed_more c.args.self.now c.parts-parts.result.first c.loop-part.part c.loop-part.invariant c.if-is_mixed_part.ensures

pub returns : goal.returns
returns c A is =
    let p = c.args.self.now in let first = c.parts-parts.result.first in let count = c.parts-parts.result.count in (
      (λ h. absurd (true≢false (sym h))),
      λ m. absurd (none_mixed A p c.requires is c.args.variable first count
          (parts_are A p c.requires is c.args.variable first count c.parts-parts.ensures.first c.parts-parts.ensures.count)
          (λ n from to. c.loop-part.invariant n from (omega (arith, to, c.loop-part-test.false))) m),
    )
