use Rattle.std.proofs.Common.{◌∙◌}
use Rattle.rx_typed.specs.Tree.{variable}
use Rattle.rx_lower_walks.specs.declared.actions.Root.{Root}
use Rattle.rx_facts_tables.specs.Live.{IsLive}
use Rattle.rx_exits_plan.specs.Marked.{marked}
use Rattle.rx_exits_plan.specs.Points.{leaves, number}
use Rattle.rx_exits_plan.specs.PlainPlan.{plain-Exit}
use Rattle.rx_exits.specs.Points.{marked_sites}
use Rattle.rx_exits.proofs.Looking.{told_of}
use Rattle.rx_exits.proofs.Lives.{live_at}
use Rattle.rx_exits.proofs.run_living.RunLiving.is_live_at.Goals as goal

pub returns : goal.returns
returns c A params is = live_at (marked A.run A.home.around.loops params A.function) (number (leaves (plain-Exit c.args.exit))) c.args.variable c.args.self.now.marks c.live_there.result is.marks
    (told_of c.live_there.result c.args.self.now.marks c.as_slice.result.now c.number.result (number (leaves (plain-Exit c.args.exit)))
    (λ i. IsLive (marked_sites A params) (variable c.args.variable) i) (λ i. IsLive (marked_sites A params) (variable c.args.variable) i → ⊥) c.as_slice.ensures c.number.ensures
    (c.live_there.ensures (marked_sites A params) (Root.Variable c.args.variable) c.number-known.ensures is.lives (c.as_slice.ensures ∙ is.marks)))
