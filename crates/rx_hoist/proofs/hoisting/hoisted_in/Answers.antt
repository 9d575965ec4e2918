use Rattle.std.proofs.Common.{◌≡◌, [], Some, drop, ap, ◌∙◌}
use Rattle.rx_tree.specs.declared.tree.Program.{Program}
use Rattle.rx_tree.specs.PlainOf.{plain-Block, plain-Func, plain-Program}
use Rattle.rx_tree.specs.Positions.{a_block}
use Rattle.rx_hoist_plan.specs.PlainPlan.{plain-Plan}
use Rattle.rx_hoist_extraction.specs.Run.{labels_on}
use Rattle.rx_hoist_made.specs.PlainParts.{plain-Labels}
use Rattle.rx_hoist_made.proofs.Dropped.{ok_map}
use Rattle.rx_hoist.specs.Runs.{run_of}
use Rattle.rx_hoist.specs.Hoisting as hoisting
use Rattle.rx_hoist.proofs.HoistingLemmas.{block_placed, program_placed}
use Rattle.rx_hoist.proofs.hoisting.hoisted_in.Goals as goal

pub returns-clause-program : goal.returns-clause-program
returns-clause-program c =
    let P = plain-Program c.args.program.now in
    let pl = plain-Plan c.args.plan.now in
    let r = run_of c.args.run.now in
    let b = plain-Block c.args.body.now in
    let f = plain-Func c.args.function.now in
    let block = plain-Block c.block_at.result.now in
    let same = c.from_on-way.ensures ∙ ap (drop 1) c.as_slice.ensures in
    let placed = block_placed r b (plain-Block c.args.other.now) block c.from_on-way.result.now c.requires same c.block_at.ensures in
    let named = ap plain-Labels c.as_slice-2.ensures.value ∙ c.in_ok-labels.ensures ∙ ap (λ w. labels_on (Some (a_block b)) w []) same in
    ok_map _ (λ (it : Program). plain-Program it ≡ hoisting.with_items P r.item (hoisting.items_in P r pl b c.args.span f)) c.hoisted_at.result
    (λ it e. program_placed P (plain-Program it) r pl (plain-Labels c.as_slice-2.result.now) block b c.args.span f named placed e)
    c.hoisted_at.ensures.program
