use Rattle.std.proofs.Common.{refl}
use Rattle.std.proofs.lemmas.Result.{IfOk-weaker}
use Rattle.rx_typed.specs.Types.{no_shape}
use Rattle.rx_typeck_solver.specs.declared.arena.Form.TheVariants as form
use Rattle.rx_typeck_solver.specs.Cells.{many}
use Rattle.rx_typeck_solver.proofs.Adding.{added}
use Rattle.rx_typeck_solver.proofs.arena.Arena.nothing.Goals as goal

pub returns : goal.returns
returns c = IfOk-weaker c.add.result _ _ (λ i h. λ sizes n b. added sizes n c.args.self.now.entries.items c.add.new.self.entries.items (record { form = form.Nothing; parts = 0; levels = 0 }) i (many no_shape) b h.0 h.1 tt refl refl refl) c.add.ensures
