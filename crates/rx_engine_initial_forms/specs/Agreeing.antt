-- How what is in scope agrees with how the answer has the variables of the text, as the relation of trees tells it (rx_engine_simulation): what
-- is in a slot of the answer's is as itself, what is behind a reference is by reference. (REM: "Adventures in refactoring Rust: extract
-- function", OOPSLA 2023.)
use Rattle.std.specs.Prelude.{◌≡◌, ℕ, Bool, true, false, List, ◌∷◌, Option, Some}
use Rattle.rx_lower_walks.specs.Walks.{Among}
use Rattle.rx_lower_walks.specs.Matching.{Binding}
use Rattle.rx_lower_walks.specs.Actions.{Act, Subject}
use Rattle.rx_typed.specs.Tree.{Place}
use Rattle.rx_engine_simulation.specs.Histories.{Facts}
use Rattle.rx_engine_simulation.specs.Sights.{Hold, How, through, viewed, sight, Renaming, sight_of}
use Rattle.rx_engine_simulation.specs.Places.{Use, IsDirect, LikePlace, direct, behind, shared, of_temporary}
use Rattle.rx_engine_simulation.specs.Binders.{LikeTaken, takes_none, takes_read, takes_borrow, LikeBindings, no_binding, binding_and}
use Rattle.rx_engine_initial.specs.Variables.{as_itself, by_reference, Sides, LikeVariable, KnownVariables}

pub record Agrees (S : Sides) (N : Renaming) (R : KnownVariables S) : Type 0 where
  pub as_they_are : (x y : ℕ) (w : How) → sight_of N x ≡ Some (sight y w) → IsDirect w → Among (as_itself y x) R.variables
  pub behind_them : (x y : ℕ) (w : Hold) (m : Bool) → sight_of N x ≡ Some (sight y (through w m)) → Among (by_reference y) R.variables
  pub seen_through : (x y : ℕ) → sight_of N x ≡ Some (sight y viewed) → Among (by_reference y) R.variables
  -- and nothing else is in scope
  pub no_others : (x y : ℕ) → Among (as_itself y x) R.variables → (w : How) × (sight_of N x ≡ Some (sight y w)) × IsDirect w
  pub no_other_references : (y : ℕ) → Among (by_reference y) R.variables → (x : ℕ) × (w : How) × (sight_of N x ≡ Some (sight y w))

-- a read of the text, and the answer's: what moves here moves there, and nothing moves out from behind a reference
abbrev pub MovesSo : {N : Renaming} {u : Use} {p q : Place} → LikePlace N u p q → Bool → Bool → Type 0
MovesSo (direct w e d a s) v z = z ≡ true → v ≡ true
MovesSo (behind w m e a s) v z = z ≡ false
MovesSo (shared e a s) v z = z ≡ false
MovesSo (of_temporary s) v z = Unit {0}

-- the variables of two lists, each of the type of the text's
abbrev pub AllLike : Sides → List ℕ → List ℕ → Type 0
AllLike S (x ∷ xs) (y ∷ ys) = LikeVariable S y x × AllLike S xs ys
AllLike S _ _ = Unit {0}

-- what bindings read so, and each variable that they bind is of the type of the text's
abbrev pub TakenSo : {N : Renaming} {a b : Option Act} → LikeTaken N a b → Type 0
TakenSo takes_none = Unit {0}
TakenSo (takes_read {v = v} {v' = z} l) = MovesSo l v z
TakenSo (takes_borrow l) = Unit {0}

abbrev pub BindingsSo : (S : Sides) {V : Facts} {X Y : Subject} {N M : Renaming} {bs cs : List Binding} → LikeBindings V X Y N bs cs M → Type 0
BindingsSo S no_binding = Unit {0}
BindingsSo S (binding_and {b = b} {b' = c} w t s n e f r) = TakenSo t × LikeVariable S c.variable b.variable × BindingsSo S r
