use Rattle.std.proofs.Common.{refl}
use Rattle.std.proofs.lemmas.Result.{IfOk-weaker}
use Rattle.rx_typed.specs.Types.{integer}
use Rattle.rx_typeck_solver.specs.declared.arena.Form.TheVariants as form
use Rattle.rx_typeck_solver.specs.Solver.{KindOf}
use Rattle.rx_typeck_solver.specs.Cells.{one}
use Rattle.rx_typeck_solver.proofs.Adding.{added}
use Rattle.rx_typeck_solver.proofs.arena.Arena.kind_of.Goals as goal

pub returns : goal.returns
returns c = IfOk-weaker c.add.result _ _ (λ i h. λ sizes n k b. added sizes n c.args.self.now.entries.items c.add.new.self.entries.items (record { form = form.KindOf c.args.node; parts = 1; levels = 1 }) i (one (integer (KindOf c.args.node))) b h.0 h.1 k refl refl refl) c.add.ensures
