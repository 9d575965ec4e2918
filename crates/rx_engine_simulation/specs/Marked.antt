-- A program whose functions have marks at the points of a run, and reads where the run is entered, of variables that were written there;
-- and the program without them (REM, "Extract method").
use Rattle.std.specs.Prelude.{ℕ, false}
use Rattle.rx_meaning.specs.Programs.{Program}
use Rattle.rx_engine_simulation.specs.Marks.{marks}
use Rattle.rx_engine_simulation.specs.Programs.{LikePrograms}

-- the text with marks is the first
pub record Marked (T P : Program) : Type 0 where
  pub items : ℕ → ℕ
  pub alike : LikePrograms items marks (record { turns = 0; strays = false }) T P
