use Rattle.std.proofs.Common.{map}
use Rattle.rx_typed.specs.PlainTree.{plain-Stmt, nested_of}
use Rattle.rx_machine_values.specs.PlainMemory.{plain-Memory}
use Rattle.rx_machine_direct.proofs.DirectLemmas.{passes_on}
use Rattle.rx_machine_direct.proofs.reaching.front.Goals as goal

pub loop-rest-preserved : goal.loop-rest-preserved
loop-rest-preserved c = λ last.
    passes_on c.args.slots.now (plain-Memory c.args.memory.now) (nested_of (map plain-Stmt c.args.statements.now) last) (plain-Memory c.loop-rest.memory) (map plain-Stmt c.loop-rest.left.now) (plain-Memory c.passed.new.memory)
    (map plain-Stmt c.in-Some.rest.now) last (c.loop-rest.invariant last) c.in-Some.ensures.passes
