-- The function with the call beside the text's (Rust Reference, "Block expressions"): what may stand there for a part, other statements for a run,
-- or other last statements and another tail; and what is asked where the run and what stands for it are come to.
use Rattle.std.specs.Prelude.{◌≡◌, ℕ, Bool, true, ◌||◌, List, ◌++◌}
use Rattle.rx_core.specs.declared.types.Span.{Span}
use Rattle.rx_tree.specs.Plain as plain
use Rattle.rx_tree.specs.Plain.{Body, OptionalExpression, Statement}
use Rattle.rx_tree.specs.Spans.{body_span}
use Rattle.rx_resolve_names.specs.Meant.{Around}
use Rattle.rx_resolve_names.specs.Steps.{Inside}
use Rattle.rx_typed.specs.declared.nodes.Node.{Node}
use Rattle.rx_typed.specs.Named.{else_diverges, some_diverges, tail_never, Else, Statements}
use Rattle.rx_typed.specs.Naming.{Cursor, of_optional, of_statements}
use Rattle.rx_hoist_extraction.specs.Names.{Names}
use Rattle.rx_hoist_extraction.specs.Run.{as_statements, same_place}
use Rattle.rx_engine_names.specs.Renaming.{Renaming}
use Rattle.rx_engine_names.specs.Placed.{EndFor, Place, StandFor, Told, ToldLast}
use Rattle.rx_engine_names.specs.Within.{Claims}
use Rattle.rx_engine_blocks.specs.Renumbering.{Renumbering}
use Rattle.rx_engine_typing.specs.Renumbered.{Holes}
use Rattle.rx_engine_holes.specs.Run.{with_run}
use Rattle.rx_engine_holes.specs.Tail.{with_tail}
use Rattle.rx_engine_changed.specs.Beside.{Instead, for_a_run, for_an_end, Numbers, Piece}
use Rattle.rx_engine_changed.specs.Stages.{Mutability, InStep}

-- a block with these statements in a row
abbrev pub block_with : Span → List Statement → List Statement → List Statement → OptionalExpression → Body
block_with s front run behind o = plain.body s (as_statements (front ++ (run ++ behind))) o

abbrev pub block_ending : Span → List Statement → List Statement → OptionalExpression → Body
block_ending s front run o = plain.body s (as_statements (front ++ run)) o

abbrev pub with_others : (r : Renumbering) → (ℕ → ℕ) → Holes → Instead → Holes
with_others r loops H (for_a_run run call n m) = with_run r loops H run call
with_others r loops H (for_an_end n s d run o call o' k m) = with_tail r loops H n s d run o call o'

-- `H` says what else may stand in front and behind
abbrev pub round : Holes → Numbers → Holes
round H q = with_others q.by q.loops H q.instead

-- variables that correspond are mutable alike
abbrev pub as_mutable : Mutability
as_mutable n m a b = b ≡ a

-- behind statements that diverge or not
abbrev pub SameEnd : Statements → Else → Statements → Else → Type 0
SameEnd xs o ys o' = ((some_diverges ys || else_diverges o') ≡ (some_diverges xs || else_diverges o)) × ((d : Bool) → tail_never (d || some_diverges ys) o' ≡ tail_never (d || some_diverges xs) o)

-- Wherever both are come to in step, and `C` says that both numberings come there, of the text to the run: a run and what stands for it go on in step, and both diverge or
-- neither does.
abbrev pub GoesOn : Renaming → Mutability → Told → Inside → Inside → (Cursor → Cursor → Type 0) → List Statement → List Statement → List Statement → Type 0
GoesOn R W T I I' C front run call = (made : List Piece) (c c' : Cursor) (p : Place) → C c c' → InStep R W made c c' → StandFor T I I' front run call p R (of_statements (as_statements run) c).0 (of_statements (as_statements call) c').0
    → InStep R W made (of_statements (as_statements run) c).1 (of_statements (as_statements call) c').1 × (some_diverges (of_statements (as_statements call) c').0 ≡ some_diverges (of_statements (as_statements run) c).0)

-- the same where a tail is behind them, where `C` says that their blocks stand: both blocks diverge or neither does, and both have a value or neither has
abbrev pub GoesOnLast : Renaming → Mutability → ToldLast → Inside → Inside → (Node → Bool → Cursor → Cursor → Type 0) → List Statement → List Statement → List Statement → OptionalExpression → OptionalExpression → Type 0
GoesOnLast R W T I I' C front run call tail last = (made : List Piece) (c c' : Cursor) (p : Place) (n : Node) (d : Bool) → C n d c c' → InStep R W made c c'
    → EndFor T I I' front run call tail last p R (of_statements (as_statements run) c).0 (of_optional n.site tail (of_statements (as_statements run) c).1).0 (of_statements (as_statements call) c').0 (of_optional n.site last (of_statements (as_statements call) c').1).0
    → InStep R W made (of_optional n.site tail (of_statements (as_statements run) c).1).1 (of_optional n.site last (of_statements (as_statements call) c').1).1
    × SameEnd (of_statements (as_statements run) c).0 (of_optional n.site tail (of_statements (as_statements run) c).1).0 (of_statements (as_statements call) c').0 (of_optional n.site last (of_statements (as_statements call) c').1).0

-- what is claimed of a block says that it is this one, where it has its place
abbrev pub OneBlock : Claims → Body → Type 0
OneBlock N b = (own : Names) (ls : List Around) (d : Body) → N.block own ls d → same_place (body_span b) (body_span d) ≡ true → d ≡ b
