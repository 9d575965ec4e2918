use Rattle.std.proofs.Common.{[], ap, sym, ◌∙◌}
use Rattle.rx_tree.specs.Plain as plain
use Rattle.rx_tree.specs.PlainOf.{plain-Program}
use Rattle.rx_hoist_plan.specs.PlainPlan.{plain-Plan}
use Rattle.rx_hoist_extraction.specs.Run.{numbered}
use Rattle.rx_hoist_extraction.specs.NewFunction.{copied_lifetimes, new_function}
use Rattle.rx_hoist_made.specs.PlainParts.{plain-Labels}
use Rattle.rx_hoist.proofs.hoisting.function_item.Goals as goal

pub made_function-requires-clause-copied : goal.made_function-requires-clause-copied
made_function-requires-clause-copied c = c.requires.copied ∙ ap copied_lifetimes (sym c.run_parts-parts.ensures)

pub returns : goal.returns
returns c =
    let s = c.args.run.now.span in
    ap (plain.function_item s)
    (c.in_ok-function.ensures
    ∙ ap (new_function (plain-Program c.args.program.now) (plain-Plan c.args.plan.now) [] s (numbered 1 (plain-Labels c.args.site.labels.now))) c.run_parts-parts.ensures)
