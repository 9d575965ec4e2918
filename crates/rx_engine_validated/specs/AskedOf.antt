-- What is asked of a run of a typed program's function: its typed tree, and the types of its variables (Rust Reference, "Variables").
use Rattle.std.specs.Prelude.{ℕ}
use Rattle.rx_typed.specs.Types.{Declarations}
use Rattle.rx_typed.specs.PlainTree.{plain-TypedTree}
use Rattle.rx_typeck_typed.specs.declared.typed.TypedFn.{TypedFn}
use Rattle.rx_facts.specs.Functions.{frame_of}
use Rattle.rx_exits_plan.specs.Runs.{Run, Home}
use Rattle.rx_exits_plan.specs.Asked.{Asked}

-- by how many parts structs and enums have
abbrev pub asked_of : Declarations → (ℕ → ℕ) → TypedFn → Run → Home → Asked
asked_of D P f r h = record { function = plain-TypedTree f.tree; run = r; home = h; frame = frame_of D P f }
