-- What is told, as that of the code stands for it.
use Rattle.std.specs.Prelude.{None}
use Rattle.rx_typed.specs.PlainTree.{plain-TypedTree}
use Rattle.rx_exits_plan.specs.PlainPlan.{plain-Run, plan_with}
use Rattle.rx_engine_simulation.specs.Passing as passing
use Rattle.rx_engine_alike.specs.PlainLikeness.{plain-Items}
use Rattle.rx_engine_extracted.specs.Told as spec
use Rattle.rx_engine_extracted.specs.declared.told.New.{New}
use Rattle.rx_engine_extracted.specs.declared.told.Told.{Told}

abbrev pub plain-New : New → passing.New
plain-New n = record { number = n.number; function = plain-TypedTree n.function.now }

-- of the plan's value nothing is asked
abbrev pub plain-Told : Told → spec.Told
plain-Told t = record {
  run = plain-Run t.run;
  around = t.around.now;
  plan = plan_with None t.plan.now;
  modes = t.modes.now;
  elsewhere = t.elsewhere.now;
  muts = t.muts.now;
  new = plain-New t.new;
  beyond = t.beyond;
  items = λ f. plain-Items t.items f;
  units = t.units.now;
  gives_unit = t.gives_unit;
}
