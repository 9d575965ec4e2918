-- Statements of a block, in the text and in a new function (REM, "Extract method"; Rust Reference, "Statements"). What they declare
-- is the function's own there.
use Rattle.std.specs.Prelude.{◌≡◌, ℕ, Bool, List, [], Some}
use Rattle.rx_typed.specs.Tree as tree
use Rattle.rx_typed.specs.Tree.{Mark, Pattern, Exp, Scrutinee, own}
use Rattle.rx_lower_walks.specs.Matching.{bindings}
use Rattle.rx_lower_walks.specs.Actions.{subject}
use Rattle.rx_engine_simulation.specs.Turns.{Allowance}
use Rattle.rx_engine_simulation.specs.Histories.{Facts}
use Rattle.rx_engine_simulation.specs.Sights.{viewed, sight, Renaming, sight_of}
use Rattle.rx_engine_simulation.specs.Binders.{LikeDeclared, LikeBindings, AreBehind}
use Rattle.rx_engine_simulation.specs.Jumps.{Jumping}
use Rattle.rx_engine_simulation.specs.Like.{LikeExp, LikeMatched}
use Rattle.rx_engine_simulation.specs.Variants.{leaving}
use Rattle.rx_engine_simulation.specs.Blocks.{Stretch, done, does_then, declares_then, lets_then}
use Rattle.rx_engine_simulation.specs.Marks.{with_mark, AreWritten}
use Rattle.rx_exits_plan.specs.Points.{Point}

-- the text's statements, and those in the new function, with no other opening than jumps out of it; and the variables behind them
pub data LikeStretch (items : ℕ → ℕ) (gain : Allowance) (U : List ℕ) (V : Facts) (J : Jumping) : Renaming → Stretch → Stretch → Renaming → Type 0 where
  both_done : {R : Renaming} → LikeStretch items gain U V J R done done R
  both_do : {R Rb : Renaming} {e e' : Exp} {r r' : Stretch} → LikeExp items (leaving U) gain V 0 J R e e' → LikeStretch items gain U V J R r r' Rb → LikeStretch items gain U V J R (does_then e r) (does_then e' r') Rb
  both_declare : {R Ra Rb : Renaming} {n n' : ℕ} {xs ys : List ℕ} {r r' : Stretch} → LikeDeclared V R xs ys Ra → LikeStretch items gain U V J Ra r r' Rb → LikeStretch items gain U V J R (declares_then n xs r) (declares_then n' ys r') Rb
  both_let : {R Ra Rb : Renaming} {n n' : ℕ} {q q' : Pattern} {c c' : Scrutinee} {r r' : Stretch} → LikeMatched items (leaving U) gain V 0 J R c c' → LikeBindings V (subject c) (subject c') R (bindings [] q) (bindings [] q') Ra
      → LikeStretch items gain U V J Ra r r' Rb → LikeStretch items gain U V J R (lets_then n q c r) (lets_then n' q' c' r') Rb
  -- a mark of the text, and reads behind it
  only_marks : {R Rb : Renaming} {r r' : Stretch} (p : Point) (xs : List ℕ) → AreWritten V p xs → LikeStretch items gain U V J R r r' Rb → LikeStretch items gain U V J R (with_mark p xs r) r' Rb
  -- a place that a variable is bound to is read
  both_read : {R Rb : Renaming} {n k z y : ℕ} {m m' : Mark} {v w : Bool} {r r' : Stretch} → LikeStretch items gain U V J R r (lets_then n (tree.bind k z (tree.by_value v)) (tree.of_value (tree.read m' w (own y))) r') Rb
      → LikeStretch items gain U V J R r (lets_then n (tree.bind k z (tree.by_value v)) (tree.at_place m (own y)) r') Rb
  -- a pattern looks behind the reference in a place
  both_look : {R Rb : Renaming} {n y : ℕ} {m m' : Mark} {w : Bool} {q' : Pattern} {r r' : Stretch} (x : ℕ) → sight_of R x ≡ Some (sight y viewed) → AreBehind y (bindings [] q') → LikeStretch items gain U V J R r (lets_then n q' (tree.of_value (tree.read m' w (own y))) r') Rb
      → LikeStretch items gain U V J R r (lets_then n q' (tree.at_place m (own y)) r') Rb
