-- The run that a range of bytes selects: exactly the tokens of some consecutive statements of one block, the tail counted last
-- (REM, OOPSLA 2023: the statements that are extracted are a contiguous part of one block).
use Rattle.std.specs.Prelude.{◌≡◌, ℕ, ◌≤◌, ◌↔◌, ◌==◌, List, length, Some}
use Rattle.rx_core.specs.declared.types.Span.{Span}
use Rattle.rx_tree.specs.Plain.{Body, ProgramTree}
use Rattle.rx_tree.specs.Lists.{statements, nth, Every}
use Rattle.rx_tree.specs.Positions.{a_block, node_at}
use Rattle.rx_lex.specs.Tok.{Tok}
use Rattle.rx_typed_runs.specs.declared.runs.RunPos.{RunPos}
use Rattle.rx_select.specs.Selected.{Within, Cut, FirstToLast}
use Rattle.rx_select.specs.Parts.{parts_of}

-- the run of the program, whose text has these tokens and this many bytes
pub record RunOf (bytes : ℕ) (ts : List Tok) (p : ProgramTree) (start end : ℕ) (r : RunPos) : Type 0 where
  pub ordered : start ≤ end
  pub inside : end ≤ bytes
  pub whole : Every (λ t. ¬ (Cut start end t)) ts
  pub item : r.block.item ≡ r.function
  pub block : Body
  pub at : node_at p r.function r.block.path ≡ Some (a_block block)
  pub a : Span
  pub b : Span
  pub first : nth (parts_of block) r.first ≡ Some a
  pub last : nth (parts_of block) r.last ≡ Some b
  pub forward : r.first ≤ r.last
  pub exactly : Every (λ t. Within start end t ↔ Within a.start b.end t) ts
  pub tail : r.tail ≡ (r.last == length (statements block))
  pub span : FirstToLast start end ts r.span
