-- The statements of a block as pieces of its order; and those of a run in the text with its marks, in front of what follows. (Rust
-- Reference, "Block expressions", "Statements".)
use Rattle.std.specs.Prelude.{ℕ, List, [], ◌∷◌, ◌++◌, map}
use Rattle.rx_typed.specs.Tree.{temporary_of}
use Rattle.rx_lower_walks.specs.Matching.{Binding, bindings}
use Rattle.rx_lower_walks.specs.Actions.{Declare, does, Subject, subject, taken, declared, written}
use Rattle.rx_lower_walks.specs.Orders.{perhaps, order, order_scrutinee}
use Rattle.rx_lower_walks.specs.Orders as orders
use Rattle.rx_exits_plan.specs.Blocks.{Statement, begins, binds}
use Rattle.rx_exits_plan.specs.Blocks as block
use Rattle.rx_exits_plan.specs.Runs.{inside}
use Rattle.rx_exits_plan.specs.Changed.{changed_statement}
use Rattle.rx_exits_plan.specs.Marked.{marking, entering, ended}
use Rattle.rx_exits_plan.specs.Asked.{Asked}
use Rattle.rx_exits_plan.specs.Plan.{Plan}
use Rattle.rx_engine_initial.specs.Matching.{Piece, doing, ending}

-- each ends where the block does, at this node
abbrev pub declaring_pieces : ℕ → ℕ → List ℕ → List Piece → List Piece
declaring_pieces n s [] K = K
declaring_pieces n s (x ∷ xs) K = doing (orders.act (does s (Declare x))) ∷ ending n x ∷ declaring_pieces n s xs K

abbrev pub binding_pieces : ℕ → Subject → List Binding → List Piece → List Piece
binding_pieces n S [] K = K
binding_pieces n S (b ∷ bs) K =
    doing (perhaps b.node (taken S b)) ∷ doing (orders.act (declared b)) ∷ doing (orders.act (written S b)) ∷ ending n b.variable ∷ binding_pieces n S bs K

-- of the block at this node
abbrev pub pieces_of : ℕ → List Statement → List Piece
pieces_of n [] = []
pieces_of n (block.does e ∷ ss) = doing (order e (temporary_of e)) ∷ pieces_of n ss
pieces_of n (begins s xs ∷ ss) = declaring_pieces n s xs (pieces_of n ss)
pieces_of n (binds s p c ∷ ss) = doing (order_scrutinee c) ∷ binding_pieces n (subject c) (bindings [] p) (pieces_of n ss)

-- a run without its block's tail
abbrev pub run_pieces : Asked → Plan → List Piece
run_pieces A k =
    pieces_of A.run.block (entering k.params ++ (map (changed_statement (marking A.home.around.loops)) (inside A.run A.home.body) ++ ended A.run.tail))
