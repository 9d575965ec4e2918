-- What is asked of a plan so that its extraction is formed is met by one: that of an extraction with an enum.
use Rattle.std.proofs.Common.{refl, arith}
use Rattle.rx_hoist_extraction.specs.FormedPlan.{FormedPlan}
use Rattle.rx_hoist_extraction.proofs.ExitShapes.{gate, gate_plan}

gate_plan_formed : FormedPlan gate gate_plan
gate_plan_formed = record {
  name = refl;
  exits = (tt, (tt, (tt, tt)));
  value = tt;
  result = tt;
  params = ((refl, tt), tt);
  locals = tt;
  redeclared = tt;
  pins = tt;
  fresh_lifetimes = omega arith;
  fresh_variable = omega arith;
  fresh_variables = (omega arith, (omega arith, (omega arith, tt)));
  fresh_handed = omega arith;
}
