-- The plan by names that one of the code stands for.
use Rattle.std.specs.Prelude.{List, map, Option, option_map}
use Rattle.rx_typed.specs.PlainTypes.{plain-Ty}
use Rattle.rx_modes_policy.specs.declared.uses.Mode.{Mode}
use Rattle.rx_modes_policy.specs.declared.uses.Mode.TheVariants as mode
use Rattle.rx_hoist_extraction.specs.Plan as plan
use Rattle.rx_hoist_plan.specs.declared.plan.Exit.{Exit}
use Rattle.rx_hoist_plan.specs.declared.plan.Exit.TheVariants as exit
use Rattle.rx_hoist_plan.specs.declared.plan.Variable.{Variable}
use Rattle.rx_hoist_plan.specs.declared.plan.Param.{Param}
use Rattle.rx_hoist_plan.specs.declared.plan.Leaving.{Leaving}
use Rattle.rx_hoist_plan.specs.declared.plan.KindPin.{KindPin}
use Rattle.rx_hoist_plan.specs.declared.plan.TypePin.{TypePin}
use Rattle.rx_hoist_plan.specs.declared.plan.Pins.{Pins}
use Rattle.rx_hoist_plan.specs.declared.plan.NamedPlan.{NamedPlan}

abbrev pub plain-Exit : Exit → plan.Exit
plain-Exit exit.Next = plan.to_next
plain-Exit (exit.Break k) = plan.to_break k
plain-Exit (exit.Continue k) = plan.to_continue k
plain-Exit exit.Return = plan.to_return

abbrev pub plain-Mode : Mode → plan.Mode
plain-Mode mode.Value = plan.by_value
plain-Mode mode.Reborrow = plan.by_reborrow
plain-Mode mode.View = plan.by_view
plain-Mode mode.Shared = plan.by_shared
plain-Mode mode.Mut = plan.by_mut

abbrev pub plain-Variable : Variable → plan.Variable
plain-Variable v = record { name = v.name; mutable = v.mutable; typ = plain-Ty v.ty }

abbrev pub plain-Param : Param → plan.Param
plain-Param p = record { variable = plain-Variable p.variable; mode = plain-Mode p.mode; moved = p.moved }

abbrev pub plain-Leaving : Leaving → plan.Leaving
plain-Leaving x = record { exit = plain-Exit x.exit; outs = map plain-Variable x.outs }

abbrev pub plain-Pins : Pins → plan.Pins
plain-Pins p = record { kinds = map (λ (k : KindPin). (k.span, k.kind)) p.kinds; types = map (λ (t : TypePin). (t.span, plain-Ty t.ty)) p.types }

abbrev pub plain-Plan : NamedPlan → plan.Plan
plain-Plan k = record {
  name = k.name;
  exits = map plain-Leaving k.exits;
  value = option_map plain-Ty k.value;
  never = k.never;
  result = plain-Ty k.result;
  params = map plain-Param k.params;
  locals = map plain-Variable k.locals;
  redeclared = map plain-Variable k.redeclared;
  pins = option_map plain-Pins k.pins;
  identifiers = k.identifiers;
  lifetimes = k.lifetimes;
}
