use Rattle.std.proofs.Common.{◌≡◌, Option, ap, sym, ◌∙◌}
use Rattle.std.specs.Prelude.{option_map}
use Rattle.rx_tree.specs.declared.tree.Expr.{Expr}
use Rattle.rx_tree.specs.PlainOf.{plain-Block, plain-Expr, optional_of}
use Rattle.rx_tree.specs.Lists.{statements, tail}
use Rattle.rx_hoist_extraction.specs.Run.{goes_past as past, rest_tail}
use Rattle.rx_hoist_made.proofs.Dropped.{ok_map}
use Rattle.rx_hoist.specs.Runs.{run_of}
use Rattle.rx_hoist.proofs.PlaceLemmas.{past_is, rest_past, rest_not_past}
use Rattle.rx_hoist.proofs.parts.tail_with.Goals as goal

pub returns-then-goes_past : goal.returns-then-goes_past
returns-then-goes_past c =
    let r = run_of c.args.run.now in
    let b = c.args.block.now in
    rest_past (past r (statements (plain-Block b))) (tail (plain-Block b)) (optional_of (option_map plain-Expr c.args.other))
    (sym (past_is r b c.as_slice.result.now c.goes_past.result c.as_slice.ensures c.goes_past.ensures) ∙ c.if-goes_past.true)

pub returns : goal.returns
returns c =
    let r = run_of c.args.run.now in
    let b = c.args.block.now in
    let not = sym (past_is r b c.as_slice.result.now c.goes_past.result c.as_slice.ensures c.goes_past.ensures) ∙ c.if-goes_past.false in
    ok_map _ (λ (it : Option Expr). optional_of (option_map plain-Expr it)
    ≡ rest_tail (past r (statements (plain-Block b))) (tail (plain-Block b)) (optional_of (option_map plain-Expr c.args.other)))
    c.copied_tail.result
    (λ it e. rest_not_past (optional_of (option_map plain-Expr it)) (past r (statements (plain-Block b))) (tail (plain-Block b)) (optional_of (option_map plain-Expr c.args.other)) not
    (ap (λ o. optional_of (option_map plain-Expr o)) e ∙ c.tail_of.ensures))
    c.copied_tail.ensures
