use Rattle.std.proofs.Common.{length, refl, arith}
use Rattle.rx_typeck_solver.proofs.ListReads.{drop_end}
use Rattle.rx_typeck_solver.proofs.Growth.{listed_start, listed_first, listed_more}
use Rattle.rx_typeck_solver.proofs.import.listed.Goals as goal

pub loop-left-init : goal.loop-left-init
loop-left-init c = (omega arith, listed_start c.args.sizes.now c.args.arena.now.entries.items c.nothing.new.self.entries.items c.in-Ok.list c.args.entries.now c.requires.formed c.requires.sized c.in-Ok.ensures (drop_end c.args.entries.now c.args.entries.now (length c.args.entries.now) refl (omega arith)))

pub and-requires-clause-first : goal.and-requires-clause-first
and-requires-clause-first c = (listed_first c.args.sizes.now c.args.arena.now.entries.items c.loop-left.arena.entries.items c.args.entries.now c.loop-left.left c.loop-left.invariant.1.grows c.requires.terms c.loop-left-test.true c.loop-left.invariant.0).0.0

pub loop-left-preserved : goal.loop-left-preserved
loop-left-preserved c = (let h = c.loop-left.invariant.0 in omega (arith, h), listed_more c.args.sizes.now c.args.arena.now.entries.items c.loop-left.arena.entries.items c.and.new.self.entries.items c.in-Ok-and.list c.loop-left.list c.args.entries.now c.loop-left.left c.requires.formed c.requires.terms c.loop-left-test.true c.loop-left.invariant.0 c.loop-left.invariant.1 c.in-Ok-and.ensures)
