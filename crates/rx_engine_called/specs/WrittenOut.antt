-- Where kinds and types are written out in a function, a run's own text and the text behind it name and declare the same (Rust Reference,
-- "Integer literal expressions", "let statements").
use Rattle.std.specs.Prelude.{◌≡◌}
use Rattle.rx_tree.specs.Plain.{Function}
use Rattle.rx_exits_plan.specs.Asked.{Asked}
use Rattle.rx_hoist_extraction.specs.Names.{declared_by, Names}
use Rattle.rx_hoist_extraction.specs.Run.{labels_round, Run, run_parts}
use Rattle.rx_engine_names.specs.Extractions.{goes_to_end}
use Rattle.rx_engine_called.specs.Outside.{outside_of}
use Rattle.rx_engine_called.specs.Tied.{BehindTied}

-- of a run in a function, and in what is made of it
pub record SaysTheSame (r : Run) (f g : Function) : Type 0 where
  pub outside : outside_of (labels_round r g) (run_parts r g) ≡ outside_of (labels_round r f) (run_parts r f)
  pub declared : declared_by (run_parts r g).statements ≡ declared_by (run_parts r f).statements
  pub past : goes_to_end r g ≡ goes_to_end r f
  pub behind : (words ns : Names) (q : Asked) → BehindTied words ns q r f → BehindTied words ns q r g
