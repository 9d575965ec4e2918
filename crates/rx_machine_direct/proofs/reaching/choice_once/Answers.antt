use Rattle.std.proofs.Common.{◌<◌, sym, subst}
use Rattle.rx_typed.specs.PlainTree.{plain-Expr, plain-Matched}
use Rattle.rx_machine_values.specs.PlainMemory.{plain-Memory}
use Rattle.rx_machine_frames.specs.Sizes.{size}
use Rattle.rx_machine_direct.specs.Reaching.{into, Comes}
use Rattle.rx_machine_direct.specs.PlainReached.{arms_in}
use Rattle.rx_machine_direct.proofs.DirectLemmas.{chosen_comes, comes_self}
use Rattle.rx_machine_direct.proofs.reaching.choice_once.Goals as goal

pub returns-in-Some : goal.returns-in-Some
returns-in-Some c = λ m e.
    subst (λ x. Comes c.args.slots.now (plain-Memory c.args.memory.now) x (plain-Memory c.args.memory.now) (into (plain-Expr c.in-Some.body.now)) × (size (plain-Expr c.in-Some.body.now) < size x)) (sym e)
    (chosen_comes c.args.slots.now (plain-Memory c.args.memory.now) m (plain-Matched c.args.matched.now) (arms_in c.args.arms.now) (plain-Expr c.in-Some.body.now) c.in-Some.ensures)

pub returns-in-None : goal.returns-in-None
returns-in-None c = λ m e. comes_self c.args.slots.now (plain-Memory c.args.memory.now) (plain-Expr c.args.expr.now)
