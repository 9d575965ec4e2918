-- A run and what stands for it that do the same to what both know (REM, "Extract function"; Rust Reference, "Type inference", "Loop expressions").
use Rattle.std.specs.Prelude.{◌≡◌, ◌≤◌, ◌<◌, ℕ, Bool, true, false, List, length, slice_get}
use Rattle.rx_tree.specs.Plain.{OptionalExpression, Statement}
use Rattle.rx_resolve_names.specs.Scopes.{Variables}
use Rattle.rx_resolve_names.specs.Steps.{Inside}
use Rattle.rx_typed.specs.declared.nodes.Node.{Node}
use Rattle.rx_typed.specs.Named.{some_diverges}
use Rattle.rx_typed.specs.Naming.{Cursor, of_optional, of_statements}
use Rattle.rx_hoist_extraction.specs.Run.{as_statements}
use Rattle.rx_engine_names.specs.Renaming.{Renaming}
use Rattle.rx_engine_names.specs.Placed.{EndFor, NamedByBoth, Place, StandFor, Told, ToldLast}
use Rattle.rx_engine_changed.specs.Beside.{Piece}
use Rattle.rx_engine_changed.specs.Deeds.{also, of_else, Deeds}
use Rattle.rx_engine_changed.specs.Deeds as deeds
use Rattle.rx_engine_changed.specs.Round.{SameEnd}
use Rattle.rx_engine_changed.specs.Stages.{waits_there, InStep, LikeDeclared, Mutability}

-- From these cursors to those: a variable in front that waits is assigned in both or in neither, a loop round them is left by both or by neither; and
-- no variable that is declared in the second and stands for none waits.
pub record DoAlike (R : Renaming) (f f' : Deeds) (c c' d' : Cursor) : Type 0 where
  pub assigned : (n m : ℕ) → R.variable n m ≡ true → n < c.declared → m < c'.declared → waits_there (slice_get c.variables n) ≡ true → f.assigns n ≡ f'.assigns m
  pub left : (n m : ℕ) → R.loop n m ≡ true → n < length c.loops → m < length c'.loops → f.leaves n ≡ f'.leaves m
  pub alone : (m : ℕ) → c'.declared ≤ m → ((n : ℕ) → R.variable n m ≡ true → ⊥) → waits_there (slice_get d'.variables m) ≡ false

-- what both declare and hand on, by a name that both bind, is known alike behind them
abbrev pub HandedAlike : Renaming → Mutability → List Piece → List Statement → List Statement → Variables → Variables → Cursor → Cursor → Cursor → Cursor → Type 0
HandedAlike R W made run call sc sc' c c' d d' = (n m : ℕ) → R.variable n m ≡ true → c.declared ≤ n → c'.declared ≤ m → NamedByBoth run call sc sc' n m → LikeDeclared made (W n m) (slice_get d.variables n) (slice_get d'.variables m)

-- wherever both are come to in step
-- where the text comes to the run
abbrev pub HandsOnAlike : Renaming → Mutability → Told → Inside → Inside → (Cursor → Cursor → Type 0) → List Statement → List Statement → List Statement → Type 0
HandsOnAlike R W T I I' C front run call = (made : List Piece) (c c' : Cursor) (p : Place) → C c c' → InStep R W made c c' → (s : StandFor T I I' front run call p R (of_statements (as_statements run) c).0 (of_statements (as_statements call) c').0)
    → HandedAlike R W made run call s.text.end.scope s.made.end.scope c c' (of_statements (as_statements run) c).1 (of_statements (as_statements call) c').1

abbrev pub RunDoesAlike : Renaming → Mutability → Told → Inside → Inside → (Cursor → Cursor → Type 0) → List Statement → List Statement → List Statement → Type 0
RunDoesAlike R W T I I' C front run call = (made : List Piece) (c c' : Cursor) (p : Place) → C c c' → InStep R W made c c' → (s : StandFor T I I' front run call p R (of_statements (as_statements run) c).0 (of_statements (as_statements call) c').0)
    → DoAlike R (deeds.of_statements (of_statements (as_statements run) c).0) (deeds.of_statements (of_statements (as_statements call) c').0) c c' (of_statements (as_statements call) c').1
    × HandedAlike R W made run call s.text.end.scope s.made.end.scope c c' (of_statements (as_statements run) c).1 (of_statements (as_statements call) c').1
    × (some_diverges (of_statements (as_statements call) c').0 ≡ some_diverges (of_statements (as_statements run) c).0)

-- with a tail; nothing is handed on
abbrev pub EndDoesAlike : Renaming → Mutability → ToldLast → Inside → Inside → (Node → Bool → Cursor → Cursor → Type 0) → List Statement → List Statement → List Statement → OptionalExpression → OptionalExpression → Type 0
EndDoesAlike R W T I I' C front run call tail last = (made : List Piece) (c c' : Cursor) (p : Place) (n : Node) (d : Bool) → C n d c c' → InStep R W made c c'
    → EndFor T I I' front run call tail last p R (of_statements (as_statements run) c).0 (of_optional n.site tail (of_statements (as_statements run) c).1).0 (of_statements (as_statements call) c').0 (of_optional n.site last (of_statements (as_statements call) c').1).0
    → DoAlike R (also (deeds.of_statements (of_statements (as_statements run) c).0) (of_else (of_optional n.site tail (of_statements (as_statements run) c).1).0))
    (also (deeds.of_statements (of_statements (as_statements call) c').0) (of_else (of_optional n.site last (of_statements (as_statements call) c').1).0)) c c' (of_optional n.site last (of_statements (as_statements call) c').1).1
    × SameEnd (of_statements (as_statements run) c).0 (of_optional n.site tail (of_statements (as_statements run) c).1).0 (of_statements (as_statements call) c').0 (of_optional n.site last (of_statements (as_statements call) c').1).0
