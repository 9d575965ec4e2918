use Rattle.std.proofs.Common.{ap, map, sym, ◌∙◌}
use Rattle.rx_typed.specs.Types.{parts}
use Rattle.rx_typed_declarations.specs.Sizes.{told}
use Rattle.rx_hoist_plan.specs.PlainPlan.{plain-Param, plain-Plan}
use Rattle.rx_hoist_extraction.specs.NewFunction.{passed_types}
use Rattle.rx_hoist_extraction.specs.Limits.{enum_parts}
use Rattle.rx_hoist_made.specs.Counts.{capped}
use Rattle.rx_hoist.specs.Parts.{first, past}
use Rattle.rx_hoist.proofs.LevelLemmas.{past_one, or_else}
use Rattle.rx_hoist.proofs.limits.enum_past.Goals as goal

pub returns-in-Some : goal.returns-in-Some
returns-in-Some c =
    let Z = told c.args.sizes.now in
    let pl = plain-Plan c.args.plan.now in
    let ns = map (λ t. capped (parts Z t)) (passed_types pl.params) in
    ap (λ o. or_else o (first Z (passed_types pl.params))) (c.in-Some.ensures ∙ ap past c.enum_parts.ensures) ∙ sym (past_one 4096 (capped (enum_parts Z pl)) ns)

pub returns-in-None : goal.returns-in-None
returns-in-None c =
    let Z = told c.args.sizes.now in
    let pl = plain-Plan c.args.plan.now in
    let ns = map (λ t. capped (parts Z t)) (passed_types pl.params) in
    c.parameters_past.ensures ∙ ap (λ ps. first Z (passed_types (map plain-Param ps))) c.as_slice.ensures
    ∙ ap (λ o. or_else o (first Z (passed_types pl.params))) (c.in-None.ensures ∙ ap past c.enum_parts.ensures) ∙ sym (past_one 4096 (capped (enum_parts Z pl)) ns)
