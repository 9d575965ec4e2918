use Rattle.std.proofs.Common.{ap, map, sym, ◌∙◌}
use Rattle.rx_typed_declarations.specs.Sizes.{told}
use Rattle.rx_hoist_plan.specs.PlainPlan.{plain-Leaving, plain-Plan}
use Rattle.rx_hoist_extraction.specs.Plan.{has_enum}
use Rattle.rx_hoist.proofs.PartLemmas.{made_with_enum, made_without}
use Rattle.rx_hoist.proofs.limits.parts_past.Goals as goal

pub returns-then-has_enum : goal.returns-then-has_enum
returns-then-has_enum c =
    c.enum_past.ensures
    ∙ sym (made_with_enum (told c.args.sizes.now) (plain-Plan c.args.plan.now) (ap (λ xs. has_enum (map plain-Leaving xs)) (sym c.as_slice.ensures) ∙ sym c.has_enum.ensures ∙ c.if-has_enum.true))

pub returns : goal.returns
returns c =
    c.signature_past.ensures
    ∙ sym (made_without (told c.args.sizes.now) (plain-Plan c.args.plan.now) (ap (λ xs. has_enum (map plain-Leaving xs)) (sym c.as_slice.ensures) ∙ sym c.has_enum.ensures ∙ c.if-has_enum.false))
