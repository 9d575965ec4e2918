use Rattle.std.proofs.Common.{◌≡◌, length, arith}
use Rattle.rx_typeck_solver.proofs.States.{reach_more}
use Rattle.rx_typeck_solver.proofs.tables.reach.Goals as goal

pub loop-classes-preserved : goal.loop-classes-preserved
loop-classes-preserved c =
    let n : c.len-next.result ≡ length c.loop-classes.classes.parents.items = omega (arith, c.len-next.ensures) in
    reach_more c.args.classes.now.parents.items c.loop-classes.classes.parents.items c.push.new.self.items c.args.classes.now.sets.items c.loop-classes.classes.sets.items c.push-in-loop-classes.new.self.items c.len-next.result c.all_kinds.result
    c.loop-classes.invariant n c.in-Ok.ensures.items c.all_kinds.ensures c.in-Ok-push.ensures.items
