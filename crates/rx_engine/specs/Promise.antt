-- What an answer promises: it is the text of the extraction under the least bounds, it is an accepted text itself, and it does
-- what the text does (REM, "Extract method").
use Rattle.std.specs.Prelude.{◌≡◌, ℕ, ℤ, ◌*◌, List}
use Rattle.rx_core.specs.declared.types.Bound.{Bound}
use Rattle.rx_tree.specs.Plain.{ProgramTree}
use Rattle.rx_check.specs.Passes.{Accepted}
use Rattle.rx_meaning.specs.declared.outcome.Outcome.{Outcome}
use Rattle.rx_meaning.specs.Programs.{UpTo}
use Rattle.rx_engine_extraction.specs.Source.{Wish}
use Rattle.rx_engine_extraction.specs.Promise as shape
use Rattle.rx_engine.specs.Runs.{Does}

-- for every input and number of turns, what the second does in so many turns is what the first does up to there, and what
-- the first does in so many is what the second does in twice as many up to there
pub record KeepsRuns (p q : ProgramTree) : Type 0 where
  pub answer : (input : List ℤ) (n : ℕ) (a o : Outcome) → Does q n input a → Does p n input o → UpTo a o
  pub text : (input : List ℤ) (n : ℕ) (o a : Outcome) → Does p n input o → Does q (2 * n) input a → UpTo o a

-- the answer's text, and the bounds of the new function, by the numbers of its lifetimes
pub record Keeps (bytes : List ℕ) (w : Wish) (text : List ℕ) (bounds : List Bound) : Type 0 where
  -- each condition is met; this is the text of the extraction, and these are its least bounds; it is read back as a program
  pub extraction : shape.Keeps bytes w text bounds
  -- that program is accepted, so it can be given to `extract` again
  pub accepted : Accepted extraction.program
  -- and does what the text's program does
  pub runs : KeepsRuns extraction.extracts.text.program extraction.program
