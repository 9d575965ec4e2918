-- A block of which the last statements and the tail are others (Rust Reference, "Block expressions"); what stands in front is the text's by
-- other numbers.
use Rattle.std.specs.Prelude.{◌≡◌, ℕ, Bool, ◌||◌}
use Rattle.rx_core.specs.declared.types.Span.{Span}
use Rattle.rx_typed.specs.declared.nodes.Node.{Node}
use Rattle.rx_typed.specs.Named as named
use Rattle.rx_typed.specs.Named.{Body, Else, Statements, some_diverges}
use Rattle.rx_typeck_typed.specs.Asking.{Asking}
use Rattle.rx_typeck_typed.specs.Demands.{of_returned, of_statements, tail_after, tail_before}
use Rattle.rx_engine_blocks.specs.Renumbering.{Renumbering, node_at}
use Rattle.rx_engine_typing.specs.Renumbered.{Holes, RenumberedStatements}
use Rattle.rx_engine_holes.specs.Run.{append}

-- `run` and the tail `o` of the text at the node `n`, `call` and the tail `o'` of the answer; `d` says whether what stands in front diverges
pub data TailBlock (r : Renumbering) (loops : ℕ → ℕ) (H : Holes) (n : Node) (s : Span) (d : Bool) (run : Statements) (o : Else) (call : Statements) (o' : Else) : Body → Body → Type 0 where
  a_tail : {a a' : Statements} → some_diverges a ≡ d → RenumberedStatements r loops H a a'
      → TailBlock r loops H n s d run o call o' (named.body n (append a run) o) (named.body (node_at r n s) (append a' call) o')

abbrev pub with_tail : (r : Renumbering) (loops : ℕ → ℕ) → Holes → Node → Span → Bool → Statements → Else → Statements → Else → Holes
with_tail r loops H n s d run o call o' = record { expression = H.expression; block = TailBlock r loops H n s d run o call o'; returns = H.returns; uses = H.uses; given_before = H.given_before }

-- what is asked of the last statements and the tail, but for what the block's place makes of its value
abbrev pub of_end : ℕ → Node → Bool → Statements → Else → Asking
of_end f n d ss o ds = tail_after n (d || some_diverges ss) o (of_returned f o (tail_before n o (of_statements f ss ds)))
