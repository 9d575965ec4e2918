-- What an action does to a place, and that some action of a list does so to a place of some kind, whether or not a walk holds it. That a
-- variable ends is none of these. (Rust Reference, "Moved and copied types", "Mutability"; RFC 2094, "Access legality".)
use Rattle.std.specs.Prelude.{◌≡◌, true, false, List, Option, Some, None}
use Rattle.rx_typed.specs.Tree.{Place}
use Rattle.rx_lower_walks.specs.Actions.{Act, Read, Write, Borrow, Action}
use Rattle.rx_lower_walks.specs.Walks.{Among}

-- the place that an action moves
abbrev pub moved : Act → Option Place
moved (Read true p d) = Some p
moved _ = None

-- that it assigns or borrows mutably
abbrev pub changed : Act → Option Place
changed (Write p t ss) = Some p
changed (Borrow true p d) = Some p
changed _ = None

-- that it borrows: shared, mutably, or either
abbrev pub shared : Act → Option Place
shared (Borrow false p d) = Some p
shared _ = None

abbrev pub borrowed_mutably : Act → Option Place
borrowed_mutably (Borrow true p d) = Some p
borrowed_mutably _ = None

abbrev pub borrowed : Act → Option Place
borrowed (Borrow k p d) = Some p
borrowed _ = None

-- some action of these does it to such a place
pub record Done (what : Act → Option Place) (Q : Place → Type 0) (l : List Action) : Type 0 where
  pub action : Action
  pub among : Among action l
  pub place : Place
  pub does : what action.act ≡ Some place
  pub such : Q place
