use Rattle.std.proofs.Common.{refl}
use Rattle.std.proofs.lemmas.Result.{IfOk-weaker}
use Rattle.rx_typed.specs.Types.{boolean}
use Rattle.rx_typeck_solver.specs.declared.arena.Form.TheVariants as form
use Rattle.rx_typeck_solver.specs.Cells.{one}
use Rattle.rx_typeck_solver.proofs.Adding.{added}
use Rattle.rx_typeck_solver.proofs.arena.Arena.boolean.Goals as goal

pub returns : goal.returns
returns c = IfOk-weaker c.add.result _ _ (λ i h. λ sizes n b. added sizes n c.args.self.now.entries.items c.add.new.self.entries.items (record { form = form.Boolean; parts = 1; levels = 1 }) i (one boolean) b h.0 h.1 tt refl refl refl) c.add.ensures
