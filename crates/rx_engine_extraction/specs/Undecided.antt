-- A case in which nothing is decided yet: what its fields have is of no account until a condition speaks of them.
use Rattle.std.specs.Prelude.{[], None, false}
use Rattle.rx_typed.specs.Tree as tree
use Rattle.rx_typed.specs.declared.tree.Form.TheVariants as form
use Rattle.rx_typed_runs.specs.declared.runs.RunPos.{RunPos}
use Rattle.rx_typeck_typed.specs.declared.typed.TypedFn.{TypedFn}
use Rattle.rx_exits_plan.specs.Runs.{Home}
use Rattle.rx_exits_plan.specs.declared.plan.ExitPlan.{ExitPlan}
use Rattle.rx_exits_plan.specs.Plan.{Plan}
use Rattle.rx_engine_extraction.specs.Case.{Case}

abbrev pub no_run : RunPos
no_run = record {
  function = 0;
  block = record { item = 0; path = [] };
  first = 0;
  last = 0;
  tail = false;
  span = record { start = 0; end = 0 };
}

abbrev pub no_function : TypedFn
no_function = record {
  item = 0;
  names = [];
  mutable = [];
  variables = [];
  annotations = [];
  spans = [];
  types = record { nodes = []; expected = [] };
  tree = record { params = []; body = record { mark = record { node = 0; ty = None }; form = form.Unit } };
}

abbrev pub no_home : Home
no_home = record { around = record { scope = []; loops = [] }; body = tree.ends (tree.unit (record { node = 0; typ = None })) }

abbrev pub no_list : ExitPlan
no_list = record { exits = []; value = false; params = []; locals = []; redeclared = []; loose = [] }

abbrev pub no_plan : Plan
no_plan = record { exits = []; params = []; locals = []; outs = λ e. []; value = None; redeclared = []; loose = [] }

abbrev pub undecided : Case
undecided = record {
  run = no_run;
  function = no_function;
  home = no_home;
  plan = no_plan;
  listed = no_list;
  modes = [];
  moved = [];
  types = record { functions = []; decls = record { items = [] } };
  made = no_function;
  bounds = [];
  text = [];
}
