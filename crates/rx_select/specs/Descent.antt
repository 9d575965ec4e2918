-- The way down to the block of a run: each node has the selected tokens, and every run of the range goes through it.
use Rattle.std.specs.Prelude.{◌≡◌, ℕ, ◌<◌, ◌≤◌, ◌==◌, Bool, true, false, List, ◌++◌, length, Some, slice_get}
use Rattle.rx_tree.specs.Plain.{ProgramTree}
use Rattle.rx_tree.specs.Lists.{statements}
use Rattle.rx_tree.specs.Spans.{body_span, node_span}
use Rattle.rx_tree.specs.Positions.{NodeTree, a_block, children, node_at}
use Rattle.rx_lex.specs.Tok.{Tok}
use Rattle.rx_typed_runs.specs.declared.runs.RunPos.{RunPos}
use Rattle.rx_select.specs.declared.places.Places.{Places}
use Rattle.rx_select.specs.RunOf.{RunOf}
use Rattle.rx_select.specs.Search.{around}

-- a block is longer than nothing
abbrev pub LongBlock : NodeTree → Type 0
LongBlock (a_block b) = (body_span b).start < (body_span b).end
LongBlock _ = Unit {0}

-- the number is that of the block's tail
abbrev pub is_tail : ℕ → NodeTree → Bool
is_tail n (a_block b) = n == length (statements b)
is_tail n _ = false

-- no child has the selected tokens
abbrev pub NoChild : Places → List NodeTree → Type 0
NoChild g cs = (k : ℕ) (c : NodeTree) → slice_get cs k ≡ Some c → around g c ≡ true → ⊥

-- this child has them
abbrev pub IsChild : Places → List NodeTree → ℕ → NodeTree → Type 0
IsChild g cs k c = (slice_get cs k ≡ Some c) × (around g c ≡ true)

-- the run's block is at the node or below
pub record Below (item : ℕ) (path : List ℕ) (r : RunPos) : Type 0 where
  pub function : r.function ≡ item
  pub rest : List ℕ
  pub way : r.block.path ≡ path ++ rest

pub record Descent (bytes : ℕ) (ts : List Tok) (p : ProgramTree) (start end : ℕ) (g : Places) (item : ℕ) (node : NodeTree) (path : List ℕ) : Type 0 where
  pub here : node_at p item path ≡ Some node
  pub has : around g node ≡ true
  pub ends : (node_span node).end ≤ bytes
  pub all : (r : RunPos) → RunOf bytes ts p start end r → Below item path r
