-- The run's statements in the new function, and how it ends (REM, "Extract method"; Rust Reference, "Statements", "Block expressions").
-- What the statements declare is the function's own there; jumps out of them are returns. `U` are items of functions that give the unit.
use Rattle.std.specs.Prelude.{◌≡◌, ℕ, Bool, List, [], Some}
use Rattle.rx_typed.specs.Tree as tree
use Rattle.rx_typed.specs.Tree.{Mark, Pattern, Exp, Scrutinee, Body, own}
use Rattle.rx_lower_walks.specs.Matching.{bindings}
use Rattle.rx_lower_walks.specs.Actions.{subject}
use Rattle.rx_exits_plan.specs.Points.{next, leaves}
use Rattle.rx_engine_simulation.specs.Turns.{Allowance}
use Rattle.rx_engine_simulation.specs.Sights.{viewed, sight, Renaming, sight_of}
use Rattle.rx_engine_simulation.specs.Binders.{LikeDeclared, LikeBindings, AreBehind}
use Rattle.rx_engine_simulation.specs.Jumps.{Jumping}
use Rattle.rx_engine_simulation.specs.Like.{LikeExp, LikeMatched}
use Rattle.rx_engine_simulation.specs.Blocks.{Stretch, done, does_then, declares_then, lets_then}
use Rattle.rx_engine_simulation.specs.Packing.{Way, bare, no_way, Gives}
use Rattle.rx_engine_simulation.specs.Endings.{Last, none_left, a_marked}
use Rattle.rx_engine_related.specs.ByForm.{by_form}
use Rattle.rx_engine_related.specs.Leaving.{HaveThere, left}

pub data Moved (items : ℕ → ℕ) (gain : Allowance) (U : List ℕ) (special : List ℕ) (J : Jumping) : Renaming → Stretch → Stretch → Renaming → Type 0 where
  moved_all : {R : Renaming} → Moved items gain U special J R done done R
  moved_statement : {R Rb : Renaming} {e e' : Exp} {r r' : Stretch} → LikeExp items (left U) gain (by_form special) 0 J R e e' → Moved items gain U special J R r r' Rb → Moved items gain U special J R (does_then e r) (does_then e' r') Rb
  moved_declaration : {R Ra Rb : Renaming} {n n' : ℕ} {xs ys : List ℕ} {r r' : Stretch} → LikeDeclared (by_form special) R xs ys Ra → Moved items gain U special J Ra r r' Rb → Moved items gain U special J R (declares_then n xs r) (declares_then n' ys r') Rb
  moved_let : {R Ra Rb : Renaming} {n n' : ℕ} {q q' : Pattern} {c c' : Scrutinee} {r r' : Stretch} → LikeMatched items (left U) gain (by_form special) 0 J R c c' → LikeBindings (by_form special) (subject c) (subject c') R (bindings [] q) (bindings [] q') Ra
      → Moved items gain U special J Ra r r' Rb → Moved items gain U special J R (lets_then n q c r) (lets_then n' q' c' r') Rb
  -- a place that a variable is bound to is read
  moved_read : {R Rb : Renaming} {n k z y : ℕ} {m m' : Mark} {v w : Bool} {r r' : Stretch} → Moved items gain U special J R r (lets_then n (tree.bind k z (tree.by_value v)) (tree.of_value (tree.read m' w (own y))) r') Rb
      → Moved items gain U special J R r (lets_then n (tree.bind k z (tree.by_value v)) (tree.at_place m (own y)) r') Rb
  -- a pattern looks behind the reference in a place
  moved_look : {R Rb : Renaming} {n y : ℕ} {m m' : Mark} {w : Bool} {q' : Pattern} {r r' : Stretch} (x : ℕ) → sight_of R x ≡ Some (sight y viewed) → AreBehind y (bindings [] q') → Moved items gain U special J R r (lets_then n q' (tree.of_value (tree.read m' w (own y))) r') Rb
      → Moved items gain U special J R r (lets_then n q' (tree.at_place m (own y)) r') Rb

-- The function's end, for what is left of the run's statements: it gives what is handed out, or the last statement is its tail; or the
-- end is not come to.
pub data Ended (items : ℕ → ℕ) (gain : Allowance) (U : List ℕ) (special : List ℕ) (J : Jumping) (R : Renaming) : Last → Way → List ℕ → Body → Type 0 where
  gives_outs : {w : Way} {xs zs : List ℕ} {m : Mark} {g : Exp} → HaveThere R xs zs → Gives w zs g → Ended items gain U special J R none_left w xs (tree.ends (tree.give m g))
  gives_last : {e e' : Exp} {m : Mark} → LikeExp items (left U) gain (by_form special) 0 J R e e' → Ended items gain U special J R (a_marked e (leaves next)) bare [] (tree.ends (tree.give m e'))
  gives_never : {m : Mark} {g : Exp} → Ended items gain U special J R none_left no_way [] (tree.ends (tree.give m g))
  gives_left : {e e' : Exp} {m : Mark} → LikeExp items (left U) gain (by_form special) 0 J R e e' → Ended items gain U special J R (a_marked e (leaves next)) no_way [] (tree.ends (tree.give m e'))
