use Rattle.std.proofs.lemmas.Result.{IfOk-weaker}
use Rattle.rx_typeck_solver.proofs.Adding.{added_and}
use Rattle.rx_typeck_solver.proofs.arena.Arena.and.Goals as goal

pub returns : goal.returns
returns c = IfOk-weaker c.add.result _ _ (λ i h. λ sizes n t u b. added_and sizes n c.args.self.now.entries.items c.add.new.self.entries.items c.args.first c.args.list _ _ _ _ _ _ i t u b c.parts.ensures c.parts-2.ensures c.few_parts-parts.ensures c.levels.ensures c.levels-2.ensures c.max-levels.ensures h.0 h.1) c.add.ensures
