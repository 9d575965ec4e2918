-- Walks without their marks, where it does not matter to which temporary a value goes: in the marked function the value of a run's
-- tail is dropped, and is left in a temporary of its own.
use Rattle.std.specs.Prelude.{ℕ, Bool, true, false, if◌then◌else◌, List, [], ◌∷◌}
use Rattle.rx_typed.specs.Tree.{Temporary, Making, tuple, temporary_at}
use Rattle.rx_lower_walks.specs.Actions.{Act, Read, Borrow, Call, Build, Input, Action, does}

abbrev pub makes_mark : Making → List ℕ → List Temporary → Bool
makes_mark tuple [] [] = true
makes_mark _ _ _ = false

abbrev pub is_mark : Act → Bool
is_mark (Build w is ts d) = makes_mark w is ts
is_mark _ = false

-- with the temporary that it fills left out
abbrev pub somewhere : Temporary
somewhere = temporary_at 0 0

abbrev pub unfilled : Act → Act
unfilled (Read m p d) = Read m p somewhere
unfilled (Borrow k p d) = Borrow k p somewhere
unfilled (Call f ts d) = Call f ts somewhere
unfilled (Build w is ts d) = Build w is ts somewhere
unfilled (Input d) = Input somewhere
unfilled a = a

abbrev pub unmarked : List Action → List Action
unmarked [] = []
unmarked (a ∷ w) = if is_mark a.act then unmarked w else does a.node (unfilled a.act) ∷ unmarked w
