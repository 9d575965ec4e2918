use Rattle.rx_hoist_naming.specs.NamedPlan.{named_plan}
use Rattle.rx_hoist_extraction.specs.Names.{declared_by}
use Rattle.rx_hoist_extraction.specs.Run.{run_parts}
use Rattle.rx_engine_called.proofs.laws.calls_have_names.Goals as goal

pub returns : goal.returns
returns c = λ A q bytes names t k s f e r g stands tells behind.
    let h = c.named_plans_hand_out.ensures in
    record {
      redeclared = h.types A q bytes names t k;
      alone = h.alone A q bytes names t k;
      stands = stands;
      says = c.texts_say_where_calls_stand.ensures A.program r (named_plan A) s g stands tells (h.outs A q bytes names t k s f e) (h.redeclared A q bytes names t k s f e)
          (h.received A q bytes names t k s f e (declared_by (run_parts r g).statements)) (h.fresh_exits A q bytes names t k) (h.fresh_values A q bytes names t k) behind;
    }
