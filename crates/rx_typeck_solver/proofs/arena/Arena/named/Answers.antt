use Rattle.std.proofs.Common.{refl}
use Rattle.std.proofs.lemmas.Result.{IfOk-weaker}
use Rattle.rx_typed.specs.Types.{named}
use Rattle.rx_typeck_solver.specs.declared.arena.Form.TheVariants as form
use Rattle.rx_typeck_solver.specs.Cells.{one}
use Rattle.rx_typeck_solver.proofs.Adding.{added}
use Rattle.rx_typeck_solver.proofs.arena.Arena.named.Goals as goal

pub returns : goal.returns
returns c = IfOk-weaker c.add.result _ _ (λ i h. λ n b. added c.args.sizes.now n c.args.self.now.entries.items c.add.new.self.entries.items (record { form = form.Named c.args.item; parts = c.item_parts.result; levels = 1 }) i (one (named c.args.item)) b h.0 h.1 tt refl c.item_parts.ensures refl) c.add.ensures
