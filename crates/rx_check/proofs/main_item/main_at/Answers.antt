use Rattle.std.proofs.Common.{sym, ◌∙◌, arith}
use Rattle.rx_check.proofs.MainLemmas.{main_here, main_next}
use Rattle.rx_check.proofs.main_item.main_at.Goals as goal

pub returns-then-is_main : goal.returns-then-is_main
returns-then-is_main c =
    main_here c.args.items.now c.loop-i.i c.index-items-i.result (let e = c.loop-i-test.true in omega (arith, e)) c.index-items-i.is (sym c.is_main.ensures ∙ c.if-is_main.true) ∙ c.loop-i.invariant

pub loop-i-preserved : goal.loop-i-preserved
loop-i-preserved c =
    main_next c.args.items.now c.loop-i.i c.index-items-i.result (let e = c.loop-i-test.true in omega (arith, e)) c.index-items-i.is (sym c.is_main.ensures ∙ c.if-is_main.false) ∙ c.loop-i.invariant
