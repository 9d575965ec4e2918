use Rattle.std.proofs.Common.{◌≡◌, ℕ, List, Option, Some, None, length, ap, subst, ◌∙◌}
use Rattle.std.specs.Prelude.{option_map}
use Rattle.rx_tree.specs.PlainOf.{plain-Program}
use Rattle.rx_typed_declarations.specs.Sizes.{told}
use Rattle.rx_hoist_plan.specs.PlainPlan.{plain-Plan}
use Rattle.rx_hoist_extraction.specs.Limits.{first_past, made_parts}
use Rattle.rx_hoist_made.specs.Counts.{capped}
use Rattle.rx_engine_extraction.specs.Deciding.{text_of}
use Rattle.rx_engine_extraction.specs.Levels.{IsTooDeepIf}
use Rattle.rx_engine_extraction.specs.Made.{run_of}
use Rattle.rx_engine_extraction.proofs.Calling.{many_levels, many_parts, many_bytes, all_within}
use Rattle.rx_engine_extraction.proofs.hoisting.within.Goals as goal

pub returns-in-Ok-Some-clause-fault : goal.returns-in-Ok-Some-clause-fault
returns-in-Ok-Some-clause-fault c =
    let g = c.args.given.now in let T = text_of g in let r = c.args.run.now in let pl = plain-Plan c.args.plan.now in
    let deep = subst (λ (o : Option ℕ). IsTooDeepIf T.bytes T.tokens T.program (run_of r) pl o) c.in-Ok-Some.field-0-is c.in-Ok-Some.ensures in
    many_levels T r pl (plain-Program c.args.program.now) c.in-Ok-Some.count deep c.limit.result c.limit.ensures

pub returns-in-Some-clause-fault : goal.returns-in-Some-clause-fault
returns-in-Some-clause-fault c =
    let g = c.args.given.now in let T = text_of g in let r = c.args.run.now in let pl = plain-Plan c.args.plan.now in
    let few = subst (λ (o : Option ℕ). IsTooDeepIf T.bytes T.tokens T.program (run_of r) pl o) c.in-Ok-None.field-0-is c.in-Ok-None.ensures in
    many_parts T r pl (plain-Program c.args.program.now) few c.in-Some.count
    (subst (λ (z : List ℕ). Some c.in-Some.count ≡ option_map capped (first_past 4096 (made_parts (told z) pl))) c.sizes.ensures.sizes c.in-Some.ensures)
    c.limit-in-Some.result c.limit-in-Some.ensures

pub returns-then-length-ge-TOO_MANY_BYTES-clause-fault : goal.returns-then-length-ge-TOO_MANY_BYTES-clause-fault
returns-then-length-ge-TOO_MANY_BYTES-clause-fault c =
    let g = c.args.given.now in let T = text_of g in let r = c.args.run.now in let pl = plain-Plan c.args.plan.now in
    let few = subst (λ (o : Option ℕ). IsTooDeepIf T.bytes T.tokens T.program (run_of r) pl o) c.in-Ok-None.field-0-is c.in-Ok-None.ensures in
    many_bytes T r pl (plain-Program c.args.program.now) few
    (subst (λ (z : List ℕ). None ≡ option_map capped (first_past 4096 (made_parts (told z) pl))) c.sizes.ensures.sizes c.in_default.ensures)
    (length c.as_str-length.result.now) (ap (λ (l : List ℕ). length l) (c.as_str-length.ensures ∙ c.in-Ok.ensures.text))
    c.if-length-ge-TOO_MANY_BYTES.true c.limit-then-length-ge-TOO_MANY_BYTES.result c.limit-then-length-ge-TOO_MANY_BYTES.ensures

pub returns-clause-found : goal.returns-clause-found
returns-clause-found c =
    let g = c.args.given.now in let T = text_of g in let r = c.args.run.now in let pl = plain-Plan c.args.plan.now in
    let few = subst (λ (o : Option ℕ). IsTooDeepIf T.bytes T.tokens T.program (run_of r) pl o) c.in-Ok-None.field-0-is c.in-Ok-None.ensures in
    all_within T r pl (plain-Program c.args.program.now) few
    (subst (λ (z : List ℕ). None ≡ option_map capped (first_past 4096 (made_parts (told z) pl))) c.sizes.ensures.sizes c.in_default.ensures)
    (length c.as_str-length.result.now) (ap (λ (l : List ℕ). length l) (c.as_str-length.ensures ∙ c.in-Ok.ensures.text))
    c.if-length-ge-TOO_MANY_BYTES.false
