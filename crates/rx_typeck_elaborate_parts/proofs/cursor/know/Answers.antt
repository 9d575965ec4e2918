use Rattle.std.proofs.Common.{arith}
use Rattle.std.proofs.lemmas.List.{length-set}
use Rattle.rx_typeck_elaborate_parts.proofs.cursor.know.Goals as goal
use Rattle.rx_typeck_elaborate_parts.proofs.CursorLemmas.{known_step}

pub loop-variable-preserved : goal.loop-variable-preserved
loop-variable-preserved c = (
  known_step c.loop-variable.variable c.args.to c.loop-variable.variables _ _ (omega arith) (omega arith) c.loop-variable.invariant.0,
  simp length-set c.loop-variable.invariant.1,
)
