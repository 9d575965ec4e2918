-- A program, and the one in which some functions are the texts that run, with reads of variables where the run is entered, which were
-- written there (REM, "Extract method").
use Rattle.std.specs.Prelude.{◌≡◌, ℕ, List, [], Option, Some}
use Rattle.rx_typed.specs.Tree.{Function}
use Rattle.rx_exits_plan.specs.Runs.{Run}
use Rattle.rx_exits_plan.specs.Points.{enters}
use Rattle.rx_engine_simulation.specs.Openings.{no_openings}
use Rattle.rx_engine_simulation.specs.Programs.{LikeFunction, IsNone}
use Rattle.rx_engine_simulation.specs.Marks.{AreWritten}
use Rattle.rx_engine_simulation.specs.Marking.{facts_alone, without_turns}
use Rattle.rx_engine_related.specs.Running.{running}

-- each function is like itself, as those of an accepted program are: its variables are told apart
pub data ReadingEntry : Option (Option Function) → Option (Option Function) → Type 0 where
  reading_run : {g : Function} (r : Run) (ls xs : List ℕ) (l : LikeFunction (λ f. f) no_openings without_turns g g) → l.about.special ≡ [] → AreWritten (facts_alone (running r ls xs g)) enters xs → ReadingEntry (Some (Some g)) (Some (Some (running r ls xs g)))
  as_it_stands : {g : Function} (l : LikeFunction (λ f. f) no_openings without_turns g g) → l.about.special ≡ [] → ReadingEntry (Some (Some g)) (Some (Some g))
  not_there : {o o' : Option (Option Function)} → IsNone o → IsNone o' → ReadingEntry o o'
