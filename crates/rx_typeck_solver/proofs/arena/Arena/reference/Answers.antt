use Rattle.std.proofs.lemmas.Result.{IfOk-weaker}
use Rattle.rx_typeck_solver.proofs.Adding.{added_reference}
use Rattle.rx_typeck_solver.proofs.arena.Arena.reference.Goals as goal

pub returns : goal.returns
returns c = IfOk-weaker c.add.result _ _ (λ i h. λ sizes n t b. added_reference sizes n c.args.self.now.entries.items c.add.new.self.entries.items c.args.mutable c.args.to _ _ _ _ i t b c.parts.ensures c.few_parts-parts.ensures c.levels.ensures c.level_more-levels.ensures h.0 h.1) c.add.ensures
