use Rattle.std.proofs.Common.{map, get_or}
use Rattle.std.proofs.lemmas.List.{get_or_default}
use Rattle.rx_exits_plan.specs.declared.plan.Exit.{Exit}
use Rattle.rx_exits_plan.specs.declared.plan.Exit.TheVariants as exit
use Rattle.rx_exits_plan.specs.PlainPlan.{plain-Exit}
use Rattle.rx_exits_plan.specs.PlainSyntax.{plain-Jump}
use Rattle.rx_exits.specs.Reaching.{AllLeft}
use Rattle.rx_exits.proofs.ReachingLemmas.{left_more, exit_among, all_taken}
use Rattle.rx_exits.proofs.reaching.some_not_reached.Goals as goal

pub loop-exit-init : goal.loop-exit-init
loop-exit-init c A p x i = elim i [ ]

pub loop-exit-preserved : goal.loop-exit-preserved
loop-exit-preserved c A p =
    let x : Exit = get_or c.args.exits.now c.loop-exit.exit-index exit.Next in
    left_more A (map plain-Jump c.args.jumps.now) c.args.exits.now c.loop-exit.exit-index x c.loop-exit-test.true (get_or_default c.args.exits.now c.loop-exit.exit-index exit.Next x c.loop-exit-test.true)
    (c.in-None.ensures A p) (c.loop-exit.invariant A p)

pub returns-in-Some : goal.returns-in-Some
returns-in-Some c A p =
    let x : Exit = get_or c.args.exits.now c.loop-exit.exit-index exit.Next in
    record {
      exit = plain-Exit x;
      among = exit_among c.args.exits.now c.loop-exit.exit-index x c.loop-exit-test.true (get_or_default c.args.exits.now c.loop-exit.exit-index exit.Next x c.loop-exit-test.true);
      it = c.in-Some.ensures A p;
    }

pub returns : goal.returns
returns c A p = all_taken (λ l. AllLeft A l (map plain-Jump c.args.jumps.now)) c.args.exits.now c.loop-exit.exit-index c.loop-exit-test.false (c.loop-exit.invariant A p)
