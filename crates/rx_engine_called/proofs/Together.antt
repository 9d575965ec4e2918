-- What is asked of names where the call stands, by the plan by numbers, where the text of the run's function stands to its typed tree as it
-- should: for the function with kinds and types written out.
use Rattle.std.proofs.Common.{List, [], get_or, sym, ◌∙◌, subst}
use Rattle.rx_tree.specs.Plain.{Function}
use Rattle.rx_lower_walks.specs.Walks.{Among}
use Rattle.rx_exits_plan.specs.Asked.{Asked}
use Rattle.rx_exits_plan.specs.Plan.{Plan}
use Rattle.rx_hoist_extraction.specs.Names.{Names}
use Rattle.rx_hoist_extraction.specs.Run.{Run}
use Rattle.rx_hoist_naming.specs.NamedPlan.{place_of}
use Rattle.rx_engine_called.specs.Outside.{a_break, a_continue, a_name, Outer}
use Rattle.rx_engine_called.specs.Tied.{RunTied}
use Rattle.rx_engine_called.specs.WrittenOut.{SaysTheSame}

pub tied_there : (r : Run) (f g : Function) (ns : Names) (q : Asked) (k : Plan) → SaysTheSame r f g → RunTied ns q k r f → RunTied ns q k r g
tied_there r f g ns q k h tied = record {
  named = λ x i j. subst (λ (os : List Outer). Among (a_name (get_or ns x [])) os) (sym h.outside) (tied.named x i j);
  declared = h.declared ∙ tied.declared;
  broken = λ l i. let z = tied.broken l i in (z.0, subst (λ (os : List Outer). Among (a_break z.0 (place_of l q.home.around.loops)) os) (sym h.outside) z.1);
  continued = λ l i. let z = tied.continued l i in (z.0, subst (λ (os : List Outer). Among (a_continue z.0 (place_of l q.home.around.loops)) os) (sym h.outside) z.1);
  left = tied.left;
}
