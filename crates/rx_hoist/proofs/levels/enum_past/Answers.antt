use Rattle.std.proofs.Common.{ap, map, sym, ◌∙◌}
use Rattle.rx_hoist_plan.specs.PlainPlan.{plain-Leaving, plain-Plan}
use Rattle.rx_hoist_extraction.specs.Plan.{has_enum}
use Rattle.rx_hoist_extraction.specs.NewEnum.{all_fields}
use Rattle.rx_hoist.specs.Levels.{first}
use Rattle.rx_hoist.proofs.LevelLemmas.{with_enum, without_enum}
use Rattle.rx_hoist.proofs.levels.enum_past.Goals as goal

pub returns-then-has_enum : goal.returns-then-has_enum
returns-then-has_enum c =
    c.fields_past.ensures ∙ ap (λ xs. first (all_fields (plain-Plan c.args.plan.now) (map plain-Leaving xs))) c.as_slice-then-has_enum.ensures
    ∙ sym (with_enum (plain-Plan c.args.plan.now) (ap (λ xs. has_enum (map plain-Leaving xs)) (sym c.as_slice.ensures) ∙ sym c.has_enum.ensures ∙ c.if-has_enum.true))

pub returns : goal.returns
returns c = sym (without_enum (plain-Plan c.args.plan.now) (ap (λ xs. has_enum (map plain-Leaving xs)) (sym c.as_slice.ensures) ∙ sym c.has_enum.ensures ∙ c.if-has_enum.false))
