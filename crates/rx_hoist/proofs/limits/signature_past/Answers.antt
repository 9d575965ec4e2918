use Rattle.std.proofs.Common.{ap, map, sym, ◌∙◌}
use Rattle.rx_typed_declarations.specs.Sizes.{told}
use Rattle.rx_hoist_plan.specs.PlainPlan.{plain-Param, plain-Plan}
use Rattle.rx_hoist_extraction.specs.NewFunction.{passed_types}
use Rattle.rx_hoist_extraction.specs.Limits.{end_types}
use Rattle.rx_hoist.specs.Parts.{first}
use Rattle.rx_hoist.proofs.LevelLemmas.{or_else}
use Rattle.rx_hoist.proofs.PartLemmas.{first_both}
use Rattle.rx_hoist.proofs.limits.signature_past.Goals as goal

pub returns-in-Some : goal.returns-in-Some
returns-in-Some c =
    let Z = told c.args.sizes.now in
    let pl = plain-Plan c.args.plan.now in
    ap (λ o. or_else o (first Z (end_types pl))) (c.in-Some.ensures ∙ ap (λ ps. first Z (passed_types (map plain-Param ps))) c.as_slice.ensures) ∙ sym (first_both Z (passed_types pl.params) (end_types pl))

pub returns-in-None : goal.returns-in-None
returns-in-None c =
    let Z = told c.args.sizes.now in
    let pl = plain-Plan c.args.plan.now in
    c.end_past.ensures ∙ ap (λ o. or_else o (first Z (end_types pl))) (c.in-None.ensures ∙ ap (λ ps. first Z (passed_types (map plain-Param ps))) c.as_slice.ensures)
    ∙ sym (first_both Z (passed_types pl.params) (end_types pl))
