use Rattle.std.proofs.Common.{suc, ap, map, ◌∙◌}
use Rattle.rx_tree.specs.PlainOf.{plain-Program, plain-Stmt}
use Rattle.rx_hoist_plan.specs.PlainPlan.{plain-Variable}
use Rattle.rx_hoist_extraction.specs.NewBody.{declared}
use Rattle.std.proofs.lemmas.Result.{on_ok_weaker}
use Rattle.rx_splice_edits.proofs.TextLemmas.{locals_written}
use Rattle.rx_splice_edits.proofs.text.push_locals.Goals as goal

pub returns : goal.returns
returns c =
    on_ok_weaker c.push_statements-outcome.result (locals_written c.in_ok-margin.margin _ _ c.args.out.now c.push_statements-outcome.new.out
    (c.in_ok-margin.ensures ∙ ap suc c.none.ensures)
    (ap (map plain-Stmt) c.as_slice-2.ensures ∙ c.in_ok-locals.ensures ∙ ap (λ l. declared (plain-Program c.args.place.now.program.now) c.args.place.now.run (map plain-Variable l)) c.as_slice.ensures))
    c.push_statements-outcome.ensures
