-- The statements of a run as a stretch of a block (Rust Reference, "Statements").
use Rattle.std.specs.Prelude.{List, [], ◌∷◌}
use Rattle.rx_exits_plan.specs.Blocks.{Statement, does, begins, binds}
use Rattle.rx_engine_simulation.specs.Blocks.{Stretch, done, does_then, declares_then, lets_then}

abbrev pub stretch_of : List Statement → Stretch
stretch_of [] = done
stretch_of (does e ∷ ss) = does_then e (stretch_of ss)
stretch_of (begins n xs ∷ ss) = declares_then n xs (stretch_of ss)
stretch_of (binds n q c ∷ ss) = lets_then n q c (stretch_of ss)
