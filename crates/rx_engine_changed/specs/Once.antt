-- Two functions of which the second is the first by each numbering in which the pieces that were made correspond, with one thing that stands for a
-- part; and where a run and the call for it are come to (REM, "Extract function"; Rust Reference, "Block expressions").
use Rattle.std.specs.Prelude.{◌≡◌, ◌≤◌, ◌<◌, ℕ, Bool, true, List, [], ◌∷◌, Some, None}
use Rattle.rx_tree.specs.Plain.{OptionalExpression, Statement}
use Rattle.rx_typed.specs.declared.nodes.Node.{Node}
use Rattle.rx_typed.specs.declared.nodes.Site.{Site}
use Rattle.rx_typed.specs.Named.{some_diverges, Function, Statements}
use Rattle.rx_typed.specs.Naming.{Cursor, of_optional, of_statements}
use Rattle.rx_typeck_solver.specs.declared.facts.Demand.{Demand}
use Rattle.rx_hoist_extraction.specs.Run.{as_statements}
use Rattle.rx_resolve_names.specs.Steps.{Inside}
use Rattle.rx_engine_names.specs.Apart.{Few}
use Rattle.rx_engine_names.specs.Renaming.{Renaming}
use Rattle.rx_engine_names.specs.Placed.{EndFor, Place, StandFor, Told, ToldLast}
use Rattle.rx_engine_blocks.specs.Renumbering.{node_at, Renumbering}
use Rattle.rx_engine_holes.specs.Tail.{of_end}
use Rattle.rx_engine_typing.specs.Renumbered.{Holes, RenumberedFunction}
use Rattle.rx_engine_typing.specs.Corresponding.{StayApart}
use Rattle.rx_engine_changed.specs.Beside.{behind_own, first_own, for_a_run, for_an_end, paired, replaced, AllCorrespond, Follows, Instead, IsPiece, Later, Numbers, Piece}
use Rattle.rx_engine_changed.specs.Stages.{InStep, Mutability}
use Rattle.rx_engine_changed.specs.Round.{SameEnd}
use Rattle.rx_engine_changed.specs.Chosen.{OneInstead}
use Rattle.rx_engine_changed.specs.Numbered.{NumberedBeside}

pub record NumberedOnce (R : Renaming) (P : List Piece → Instead → Type 0) (holes : Numbers → Holes) (f g : Function) : Type 0 where
  pub beside : NumberedBeside R holes f g
  pub instead : Instead
  pub there : IsPiece (replaced instead) beside.pieces
  pub once : OneInstead instead beside.pieces
  -- behind these pieces
  pub made : List Piece
  pub still : Later (replaced instead ∷ made) beside.pieces
  pub such : P made instead

-- the second is the first by one numbering, in which what corresponds does, and different variables and loops stay different; and such stands for a part
pub record ByOneNumbering (R : Renaming) (P : List Piece → Instead → Type 0) (holes : Numbers → Holes) (f g : Function) : Type 0 where
  pub numbers : Numbers
  pub follows : Follows R numbers
  pub variables_apart : StayApart numbers.by.variables
  pub loops_apart : StayApart numbers.loops
  -- a variable that comes back from a number of the second corresponds
  pub comes_back : (x y : ℕ) → numbers.back.variable y ≡ Some x → Few y → R.variable x y ≡ true
  -- behind these pieces, which correspond; those of the second stand in front
  pub made : List Piece
  pub correspond : AllCorrespond numbers made
  pub in_front : (n n' : ℕ) → IsPiece (paired n n') made → n' < first_own numbers.instead
  pub such : P made numbers.instead
  -- what stands there is new
  pub own : (k : ℕ) → first_own numbers.instead ≤ k → k < behind_own numbers.instead → numbers.back.node k ≡ None
  pub like : RenumberedFunction numbers.by numbers.loops (holes numbers) f g

-- the statements of a run and those for it, from cursors that were come to in step; both diverge or neither does
pub record IsCall (R : Renaming) (W : Mutability) (run call : List Statement) (made : List Piece) (i : Instead) : Type 0 where
  pub cursor : Cursor
  pub cursor' : Cursor
  pub step : InStep R W made cursor cursor'
  pub is : i ≡ for_a_run (of_statements (as_statements run) cursor).0 (of_statements (as_statements call) cursor').0 cursor'.number (of_statements (as_statements call) cursor').1.number
  pub diverges : some_diverges (of_statements (as_statements call) cursor').0 ≡ some_diverges (of_statements (as_statements run) cursor).0

-- the same with tails, in a block with this node
pub record IsLastCall (R : Renaming) (W : Mutability) (run call : List Statement) (tail last : OptionalExpression) (made : List Piece) (i : Instead) : Type 0 where
  pub cursor : Cursor
  pub cursor' : Cursor
  pub step : InStep R W made cursor cursor'
  pub node : Node
  pub front : Statements
  pub site : Site
  pub sited : node.site ≡ site
  pub is : i ≡ for_an_end node node.span (some_diverges front)
      (of_statements (as_statements run) cursor).0 (of_optional site tail (of_statements (as_statements run) cursor).1).0
      (of_statements (as_statements call) cursor').0 (of_optional site last (of_statements (as_statements call) cursor').1).0
      cursor'.number (of_optional site last (of_statements (as_statements call) cursor').1).1.number
  pub ends : SameEnd (of_statements (as_statements run) cursor).0 (of_optional site tail (of_statements (as_statements run) cursor).1).0
      (of_statements (as_statements call) cursor').0 (of_optional site last (of_statements (as_statements call) cursor').1).0

-- the same where both numberings come there (`C`), with what is told of the names of what stands for it there
pub record IsToldCall (R : Renaming) (W : Mutability) (T : Told) (I I' : Inside) (C : Cursor → Cursor → Type 0) (front run call : List Statement) (made : List Piece) (i : Instead) : Type 0 where
  pub is_call : IsCall R W run call made i
  pub comes : C is_call.cursor is_call.cursor'
  pub place : Place
  pub stands : StandFor T I I' front run call place R (of_statements (as_statements run) is_call.cursor).0 (of_statements (as_statements call) is_call.cursor').0

pub record IsToldLast (R : Renaming) (W : Mutability) (T : ToldLast) (I I' : Inside) (C : Node → Bool → Cursor → Cursor → Type 0) (front run call : List Statement) (tail last : OptionalExpression) (made : List Piece) (i : Instead) : Type 0 where
  pub is_call : IsLastCall R W run call tail last made i
  pub comes : C is_call.node (some_diverges is_call.front) is_call.cursor is_call.cursor'
  pub place : Place
  pub stands : EndFor T I I' front run call tail last place R (of_statements (as_statements run) is_call.cursor).0 (of_optional is_call.site tail (of_statements (as_statements run) is_call.cursor).1).0
      (of_statements (as_statements call) is_call.cursor').0 (of_optional is_call.site last (of_statements (as_statements call) is_call.cursor').1).0

-- less is told
abbrev pub without_names : {R : Renaming} {W : Mutability} {T : Told} {I I' : Inside} {C : Cursor → Cursor → Type 0} {front run call : List Statement} {holes : Numbers → Holes} {f g : Function}
    → ByOneNumbering R (IsToldCall R W T I I' C front run call) holes f g → ByOneNumbering R (IsCall R W run call) holes f g
without_names x = record {
  numbers = x.numbers;
  follows = x.follows;
  variables_apart = x.variables_apart;
  loops_apart = x.loops_apart;
  comes_back = x.comes_back;
  made = x.made;
  correspond = x.correspond;
  in_front = x.in_front;
  such = x.such.is_call;
  own = x.own;
  like = x.like;
}

abbrev pub last_without_names : {R : Renaming} {W : Mutability} {T : ToldLast} {I I' : Inside} {C : Node → Bool → Cursor → Cursor → Type 0} {front run call : List Statement} {tail last : OptionalExpression} {holes : Numbers → Holes} {f g : Function}
    → ByOneNumbering R (IsToldLast R W T I I' C front run call tail last) holes f g → ByOneNumbering R (IsLastCall R W run call tail last) holes f g
last_without_names x = record {
  numbers = x.numbers;
  follows = x.follows;
  variables_apart = x.variables_apart;
  loops_apart = x.loops_apart;
  comes_back = x.comes_back;
  made = x.made;
  correspond = x.correspond;
  in_front = x.in_front;
  such = x.such.is_call;
  own = x.own;
  like = x.like;
}

-- what the last statements and the tail of the text ask, and those for them by these numbers
abbrev pub asked_last : {R : Renaming} {W : Mutability} {run call : List Statement} {tail last : OptionalExpression} {made : List Piece} {i : Instead} → IsLastCall R W run call tail last made i → ℕ → List Demand
asked_last {run = run} {tail = tail} x f = of_end f x.node (some_diverges x.front) (of_statements (as_statements run) x.cursor).0 (of_optional x.site tail (of_statements (as_statements run) x.cursor).1).0 []

abbrev pub given_last : {R : Renaming} {W : Mutability} {run call : List Statement} {tail last : OptionalExpression} {made : List Piece} {i : Instead} → IsLastCall R W run call tail last made i → Renumbering → ℕ → List Demand
given_last {call = call} {last = last} x r g = of_end g (node_at r x.node x.node.span) (some_diverges x.front) (of_statements (as_statements call) x.cursor').0 (of_optional x.site last (of_statements (as_statements call) x.cursor').1).0 []
