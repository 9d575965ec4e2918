-- Functions whose variables have begun where they are used: on each walk, the variable of each place of an action was declared (Rust
-- Reference, "Scopes"; "Variables").
use Rattle.std.specs.Prelude.{◌≡◌, ℕ, List, [], ◌∷◌, ◌++◌}
use Rattle.rx_typed.specs.Tree.{variable, Place, Function}
use Rattle.rx_lower_walks.specs.Actions.{Act, Declare, Read, Write, Borrow, Test, Action, does}
use Rattle.rx_lower_walks.specs.Walks.{Among, IsWalk}

-- among these actions it is declared
abbrev pub HasBegun : ℕ → List Action → Type 0
HasBegun x w = (n : ℕ) × Among (does n (Declare x)) w

abbrev pub PlaceBegun : Place → List Action → Type 0
PlaceBegun p w = (x : ℕ) → p.root ≡ variable x → HasBegun x w

abbrev pub ActBegun : Act → List Action → Type 0
ActBegun (Read m p d) w = PlaceBegun p w
ActBegun (Borrow k p d) w = PlaceBegun p w
ActBegun (Test p c) w = PlaceBegun p w
ActBegun (Write p t ss) w = PlaceBegun p w
ActBegun _ w = Unit {0}

abbrev pub UsesBegun : Function → Type 0
UsesBegun F = (w : List Action) (a : Action) → IsWalk F (w ++ a ∷ []) → ActBegun a.act w
