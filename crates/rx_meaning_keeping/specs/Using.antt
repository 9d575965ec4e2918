-- What an action uses and fills: its values, what is pending before it and behind it, and what it gives.
use Rattle.std.specs.Prelude.{◌≡◌, ℕ, Bool, List, [], ◌∷◌, length, None}
use Rattle.rx_core.specs.declared.types.Step.{Step}
use Rattle.rx_typed.specs.Tree.{Temporary, Place, temporary_place, under}
use Rattle.rx_typed.specs.Tree as tree
use Rattle.rx_lower_walks.specs.Actions.{Act, Declare, Dead, Read, Write, Borrow, Test, Call, Build, Input, Print, Give}
use Rattle.rx_meaning.specs.Values.{Value, truth, unit_value, State}
use Rattle.rx_meaning_keeping.specs.Pending.{Pending, holds, pushes, Paired, ids, Unheld}

-- which of two operands `&&` and `||` take, where these are the right ones that go on
pub data Taken (Rs : Temporary → Type 0) (t u : Temporary) : Temporary → Type 0 where
  left : Taken Rs t u t
  right : Rs u → Taken Rs t u u

-- where these are the right operands that go on
pub data Does (Rs : Temporary → Type 0) : Act → List Value → Pending → (Value → Pending) → Type 0 where
  declares : {x : ℕ} {K : Pending} → Does Rs (Declare x) [] K (λ u. K)
  dies : {x : ℕ} {K : Pending} → Does Rs (Dead x) [] K (λ u. K)
  reads : {m : Bool} {p : Place} {d : Temporary} {K : Pending} → Unheld d (ids K) → Does Rs (Read m p d) [] K (λ v. holds d v K)
  borrows : {m : Bool} {p : Place} {d : Temporary} {K : Pending} → Unheld d (ids K) → Does Rs (Borrow m p d) [] K (λ v. holds d v K)
  -- of what a pending value leads to
  borrows_held : {m : Bool} {t d : Temporary} {ss : List Step} {v : Value} {K : Pending} → Unheld d (t ∷ ids K)
      → Does Rs (Borrow m (under (temporary_place t) ss) d) (v ∷ []) (holds t v K) (λ u. holds d u (holds t v K))
  tests : {p : Place} {c : _} {K : Pending} → Does Rs (Test p c) [] K (λ u. K)
  tests_held : {t : Temporary} {ss : List Step} {c : _} {v : Value} {K : Pending} → Does Rs (Test (under (temporary_place t) ss) c) (v ∷ []) (holds t v K) (λ u. holds t v K)
  writes : {p : Place} {t : Temporary} {v : Value} {K : Pending} → Does Rs (Write p t []) (v ∷ []) (holds t v K) (λ u. K)
  -- a new variable, from a part of what a pattern is matched against
  writes_part : {x : ℕ} {t : Temporary} {ss : List Step} {v : Value} {K : Pending} → Does Rs (Write (tree.own x) t ss) (v ∷ []) (holds t v K) (λ u. holds t v K)
  -- (each operand is there: of `&&` and `||`, whose operands have no fields, one is)
  builds : {w : _} {js : List ℕ} {ts : List Temporary} {vs : List Value} {d : Temporary} (K : Pending) → Paired ts vs → (w ≡ tree.lazy → length js ≡ length ts) → Unheld d (ids K) → Does Rs (Build w js ts d) vs (pushes ts vs K) (λ v. holds d v K)
  -- `&&`, `||`: one of two operands
  joins : {t u x : Temporary} {v : Value} {d : Temporary} {K : Pending} → Taken Rs t u x → Unheld d (ids K)
      → Does Rs (Build tree.lazy [] (t ∷ u ∷ []) d) (v ∷ []) (holds x v K) (λ y. holds d y K)
  inputs : {d : Temporary} {K : Pending} → Unheld d (ids K) → Does Rs (Input d) [] K (λ v. holds d v K)
  prints : {t : Temporary} {v : Value} {K : Pending} → Does Rs (Print t) (v ∷ []) (holds t v K) (λ u. K)
  gives_up : {t : Temporary} {v : Value} {K : Pending} → Does Rs (Give t) (v ∷ []) (holds t v K) (λ u. (None, u) ∷ K)
  -- before the function is entered
  calls : {f : ℕ} {ts : List Temporary} {vs : List Value} {d : Temporary} (K : Pending) → Paired ts vs → Unheld d (ids K) → Does Rs (Call f ts d) vs (pushes ts vs K) (λ u. pushes ts vs K)

-- what is asked of the value that an action gives
abbrev pub Gives : Act → State → Value → State → Type 0
Gives (Write p t ss) s v s1 = v ≡ unit_value
Gives (Print t) s v s1 = v ≡ unit_value
Gives (Test p c) s v s1 = (s1 ≡ s) × (b : Bool) × (v ≡ truth b)
Gives _ s v s1 = Unit {0}
