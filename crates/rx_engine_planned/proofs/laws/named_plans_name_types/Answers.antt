use Rattle.std.proofs.Common.{◌∙◌, ap, slice_get, sym}
use Rattle.rx_typed.specs.Types.{Declarations, result_declared}
use Rattle.rx_engine_planned.proofs.NamedTypes.{plan_pins_name, plan_types_name, result_names}
use Rattle.rx_engine_planned.proofs.laws.named_plans_name_types.Goals as goal

pub returns : goal.returns
returns c = record {
  pins = λ A names t few meant typed among. plan_pins_name A (c.types_name_types.ensures.tables A.program names t few meant typed A.function among);
  types = λ A names t few meant typed declared among. plan_types_name A (c.types_name_types.ensures.tables A.program names t few meant typed A.function among)
      (result_names A.program (result_declared (slice_get A.declared A.function.item))
      (λ u e. c.types_name_types.ensures.results A.program names t few meant typed A.function.item u (ap (λ (D : Declarations). result_declared (slice_get D A.function.item)) (sym declared) ∙ e)));
}
