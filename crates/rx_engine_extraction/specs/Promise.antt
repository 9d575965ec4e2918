-- What an answer promises: each condition is met, and the answer is the text of the extraction, which is read back as it and is an accepted
-- program. That the answer runs as the text does is not said here.
use Rattle.std.specs.Prelude.{◌≡◌, ℕ, List}
use Rattle.rx_core.specs.declared.types.Bound.{Bound}
use Rattle.rx_tree.specs.Erase.{SameProgram}
use Rattle.rx_tree.specs.Lists.{Every}
use Rattle.rx_tree.specs.Plain.{ProgramTree}
use Rattle.rx_parse_grammar.specs.grammar.Items.{Parses}
use Rattle.rx_check.specs.Passes.{Accepted}
use Rattle.rx_engine_extraction.specs.Source.{Text, IsText, Wish}
use Rattle.rx_engine_extraction.specs.Case.{Case}
use Rattle.rx_engine_extraction.specs.Made.{extracted}
use Rattle.rx_engine_extraction.specs.Conditions.{Condition, before, confirmed}
use Rattle.rx_engine_extraction.specs.Meeting.{Holds}

-- the conditions in front of one are met
abbrev pub Stands : Text → Wish → Case → Condition → Type 0
Stands T w d c = Every (Holds T w d) (before c)

-- all are
pub record Extracts (bytes : List ℕ) (w : Wish) : Type 0 where
  pub text : Text
  pub is_text : IsText bytes text
  pub case : Case
  pub stands : Stands text w case confirmed
  pub last : Holds text w case confirmed

abbrev pub program_of : {bytes : List ℕ} {w : Wish} → Extracts bytes w → ProgramTree
program_of {w = w} x = extracted x.text w x.case

-- the answer's text, and the bounds of the new function, by the numbers of its lifetimes
pub record Keeps (bytes : List ℕ) (w : Wish) (text : List ℕ) (bounds : List Bound) : Type 0 where
  pub extracts : Extracts bytes w
  pub rendered : text ≡ extracts.case.text
  pub needed : bounds ≡ extracts.case.bounds
  -- it is read back as the extraction, apart from spans
  pub program : ProgramTree
  pub parses : Parses text program
  pub same : SameProgram program (program_of extracts)
  pub accepted : Accepted (program_of extracts)
