-- What is found where a text and the answer of an extraction from it are run.
use Rattle.std.specs.Prelude.{ℕ, ◌≡◌, List, []}
use Rattle.rx_tree.specs.Plain.{ProgramTree}
use Rattle.rx_meaning.specs.declared.outcome.Outcome.{Outcome}
use Rattle.rx_engine.specs.Runs.{Does}
use Rattle.rx_rem_generated.specs.Generated.{input, turns, twice}
use Rattle.rx_rem_generated.specs.Summary.{summary}
use Rattle.rx_rem_command.specs.declared.status.Status.{Status}
use Rattle.rx_rem_command.specs.declared.status.Status.TheVariants.{Done, OutOfMemory}
use Rattle.rx_rem_command.specs.Lines.{status_line}

-- what is told of a text and an answer, where their programs do this
pub record Both (n : ℕ) (p q : ProgramTree) (text answer told : List ℕ) : Type 0 where
  pub first : Outcome
  pub second : Outcome
  pub does : Does p (turns n) (input n) first
  pub does_again : Does q (twice n) (input n) second
  pub is : told ≡ summary text answer first.printed second.printed

-- that, or want of memory
pub data FoundBoth (n : ℕ) (p q : ProgramTree) (text answer : List ℕ) : Status → List ℕ → List ℕ → Type 0 where
  found : (told : List ℕ) → Both n p q text answer told → FoundBoth n p q text answer Done told []
  no_memory_for_both : FoundBoth n p q text answer OutOfMemory [] (status_line OutOfMemory)
