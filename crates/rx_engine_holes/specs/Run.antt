-- A block in which other statements stand for a run of some (Rust Reference, "Block expressions"); what stands in front and behind is the
-- text's by other numbers.
use Rattle.std.specs.Prelude.{ℕ}
use Rattle.rx_core.specs.declared.types.Span.{Span}
use Rattle.rx_typed.specs.declared.nodes.Node.{Node}
use Rattle.rx_typed.specs.Named as named
use Rattle.rx_typed.specs.Named.{Body, Else, Statement, Statements}
use Rattle.rx_engine_blocks.specs.Renumbering.{Renumbering, node_at}
use Rattle.rx_engine_typing.specs.Renumbered.{Holes, RenumberedElse, RenumberedStatements}

-- statements one behind another
abbrev pub append : Statements → Statements → Statements
append named.no_statement b = b
append (named.statement_and a ss) b = named.statement_and a (append ss b)

-- `H` says what else may stand in front and behind
pub data RunBlock (r : Renumbering) (loops : ℕ → ℕ) (H : Holes) (run call : Statements) : Body → Body → Type 0 where
  a_run : {n : Node} {s : Span} {a a' c c' : Statements} {o o' : Else} → RenumberedStatements r loops H a a' → RenumberedStatements r loops H c c' → RenumberedElse r loops H o o'
      → RunBlock r loops H run call (named.body n (append a (append run c)) o) (named.body (node_at r n s) (append a' (append call c')) o')

abbrev pub with_run : (r : Renumbering) (loops : ℕ → ℕ) → Holes → Statements → Statements → Holes
with_run r loops H run call = record { expression = H.expression; block = RunBlock r loops H run call; returns = H.returns; uses = H.uses; given_before = H.given_before }
