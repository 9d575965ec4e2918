use Rattle.std.proofs.Common.{sym, ap, ◌∙◌, map}
use Rattle.rx_typed.specs.PlainTypes.{declarations}
use Rattle.rx_typed.specs.Types.{outline}
use Rattle.rx_typeck_solver.specs.Facts.{holds}
use Rattle.rx_typeck_solver.specs.Cells.{term, sizes_of}
use Rattle.rx_typeck_solver.proofs.tests.holds.Goals as goal

pub returns-in-BindingKept : goal.returns-in-BindingKept
returns-in-BindingKept c = λ ms qs e f. c.kept_binding.ensures ms qs e f ∙ ap (λ t. holds (record { items = declarations c.args.items.now; sizes = sizes_of c.args.sizes.now }) t (map outline (map (term c.args.arena.now.entries.items) c.args.ts.now)) ms qs) (sym c.in-BindingKept.is)

pub returns-in-BindingKeptOrLent : goal.returns-in-BindingKeptOrLent
returns-in-BindingKeptOrLent c = λ ms qs e f. c.kept_or_lent_binding.ensures ms qs e f ∙ ap (λ t. holds (record { items = declarations c.args.items.now; sizes = sizes_of c.args.sizes.now }) t (map outline (map (term c.args.arena.now.entries.items) c.args.ts.now)) ms qs) (sym c.in-BindingKeptOrLent.is)
