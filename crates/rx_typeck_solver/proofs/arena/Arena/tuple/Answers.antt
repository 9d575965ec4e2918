use Rattle.std.proofs.lemmas.Result.{IfOk-weaker}
use Rattle.rx_typeck_solver.proofs.Adding.{added_tuple}
use Rattle.rx_typeck_solver.proofs.arena.Arena.tuple.Goals as goal

pub returns : goal.returns
returns c = IfOk-weaker c.add.result _ _ (λ i h. λ sizes n t b. added_tuple sizes n c.args.self.now.entries.items c.add.new.self.entries.items c.args.list _ _ _ _ i t b c.parts.ensures c.max-parts.ensures c.levels.ensures c.level_more-levels.ensures h.0 h.1) c.add.ensures
